-- The lines of slots as bytes.
pub mod SlotLines
pub mod LineSizes

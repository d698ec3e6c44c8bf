-- Masks as sets; the table slot by slot, and that it is the definition's.
pub mod Sets
pub mod SlotsPlaced
pub mod PlacedFrame

-- The loop over the lines after a head.
pub mod LineLoop

-- The walk over the optional cells.
pub mod CellByCell

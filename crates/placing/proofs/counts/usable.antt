-- The cells that a call may use, and their capacities.
pub mod UsableCells

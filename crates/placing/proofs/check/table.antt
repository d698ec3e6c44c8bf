-- The check of a table: cells counted by value, the walk over the frame up to the first cell at fault, and that the check is the test of the definition.
pub mod Counted
pub mod FrameWalk
pub mod SameTest

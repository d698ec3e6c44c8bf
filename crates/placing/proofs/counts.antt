-- Numbers that are marked, and the counts that an event leaves.
pub mod MarkedNumbers
pub mod LeftByEvent

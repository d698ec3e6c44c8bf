-- The parts of the search, and that it finds the evicted set.
pub mod Parts
pub mod EvictedSet

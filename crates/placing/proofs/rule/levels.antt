-- The choice of jobs in one slot; the first of a set, those that hold before the others; jobs by levels; levels gone through from the highest down.
pub mod Choice
pub mod FirstHeld
pub mod ByLevel
pub mod LevelsDone

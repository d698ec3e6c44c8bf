-- The laws, by subject. Of numbers and lists: tests, comparisons, tests of every number, sums, counts, lists element by element, stores into them, what a loop over numbers keeps,
-- positions in an order. Of jobs and slots: capacities, the table of them computed, placements (T1, T2), the two orders of ties computed, the sums of the largest needs, the excess, cells of a slot, eviction
-- (T4), grants (T3), the highest need of a job.
pub mod Tests
pub mod Comparisons
pub mod Every
pub mod Sums
pub mod Counts
pub mod Lists
pub mod Stores
pub mod Loops
pub mod Order
pub mod Capacities
pub mod TableExamples
pub mod Placement
pub mod TieExamples
pub mod Largest
pub mod Excess
pub mod Cells
pub mod Eviction
pub mod Grants
pub mod Least
-- Ahead of requests to come: the cells a search looks at (10); one more free cell (14); the first largest set, needs
-- that go into a number of cells, whole presets (13).
pub mod Looked
pub mod Sensitivity
pub mod Subsets
pub mod Fitting
pub mod Wholes
-- Jobs with windows (09): the greatest value over all sets of jobs; the excess, a shortage; take or leave; placements within windows; the first of them, and Hall's theorem; eviction;
-- what is reached from jobs that lack a cell, and slots handed over; a computed case.
pub mod GreatestSet
pub mod WindowExcess
pub mod TakeOrLeave
pub mod WindowPlacement
pub mod FirstPlacement
pub mod WindowEviction
pub mod Reached
pub mod Augmenting
pub mod WindowExamples

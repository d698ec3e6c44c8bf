-- What the laws speak of: sums and counts, lists as functions, placements and the criterion, cells,
-- grants, eviction.
pub mod Sums
pub mod Lists
pub mod Placement
pub mod Cells
pub mod Grants
pub mod Eviction
-- What only a method needs.
pub mod method
-- And of requests to come: jobs with windows, and the greatest value over all sets of jobs (09);
-- the cells a search looks at (10); what one more free cell may do (14); the first largest set,
-- needs that go into a number of cells, whole presets (13).
pub mod GreatestSet
pub mod Windows
pub mod Looked
pub mod Sensitivity
pub mod Subsets
pub mod Fitting
pub mod Wholes

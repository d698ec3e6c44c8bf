-- What the code's parts are held to, and no reader has to believe: proofs/ shows that it comes to the definitions of specs/.
-- In order: the limits; the cells of a frame within them; preset records by their places; masks of bridges; the check of a table; the grants; the parts of a plan; a call's job records and the counts; the eviction search; the placing rule; the parts of a call.
pub mod Limits
pub mod Grid
pub mod Records
pub mod Mask
pub mod Check
pub mod Grants
pub mod PlanParts
pub mod Jobs
pub mod Counts
pub mod Search
pub mod Rule
pub mod CallParts

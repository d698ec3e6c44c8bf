-- A row of the table as it is written, emptied, and served to the chosen jobs.
pub mod RowWritten
pub mod EmptiedRow
pub mod ServedJobs

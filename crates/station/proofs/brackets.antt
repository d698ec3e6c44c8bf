-- Brackets as they are read: one bracket, jobs, stretches as a mask.
pub mod OneBracket
pub mod JobList
pub mod StretchMask

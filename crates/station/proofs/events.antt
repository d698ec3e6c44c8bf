-- Event lines as they are read.
pub mod EventLines

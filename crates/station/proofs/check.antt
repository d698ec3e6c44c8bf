-- The test of a head record.
pub mod ValidRecord

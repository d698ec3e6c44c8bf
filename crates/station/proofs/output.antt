-- Bytes written one run after the other, and digits two by two.
pub mod TwoDigits
pub mod Runs

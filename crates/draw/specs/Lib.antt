-- The line that an event of a text has.
pub mod Lines

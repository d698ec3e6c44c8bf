-- The line of a text from a place on.
pub mod FirstLine

-- The limits.
pub mod Within

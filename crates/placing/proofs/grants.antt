-- The arrays in which the grants are computed, and that these are the definition's.
pub mod Arrays
pub mod Computed

-- The layout of what crosses the boundary, and what each exported function is held to.
pub mod Layout
-- What each exported function is held to.
pub mod Exports
-- A list of calls of one of them.
pub mod HandedOver

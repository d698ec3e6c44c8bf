-- The laws that they cite.
pub mod Printed
-- that no input is cut to one with another listing
pub mod InputCut

-- What only a method needs, and no reader has to believe: capacities from a table of slots by their
-- free cells; the least of some numbers, and the highest need of a job without a try for each.
pub mod Capacities
pub mod Least

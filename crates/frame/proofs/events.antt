-- The events of a text on a lent frame, by the causes and the lines, and from the first 32 records by value to the list.
pub mod EventsRun

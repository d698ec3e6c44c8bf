-- The answers of an event; from the first 32 records by value to the list.
pub mod EventAnswers
pub mod ListOfRecords

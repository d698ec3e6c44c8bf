-- The entries: from the first 32 records to the list; the round trips of demand 2, and of rows.
pub mod FirstRecords
pub mod ListOfRecords
pub mod EntryRoundTrip
pub mod RowsRoundTrip

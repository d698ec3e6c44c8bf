-- From a head that was read to the lines after it; a whole text; from the first 32 records by value to the list.
pub mod AfterHead
pub mod WholeText
pub mod ListOfRecords

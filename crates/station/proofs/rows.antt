-- Rows: all rows of a text together; their texts and how a text is cut; a row as the code finds it at a place; their union; the loop over them; the causes before any row;
-- writing, and run by run; what reading means, and both ways; rows in order are the only ones with their cells; examples by computing.
pub mod RowLists
pub mod RowText
pub mod RowLine
pub mod RowUnion
pub mod RowLoop
pub mod RowCauses
pub mod RowsWritten
pub mod RowRuns
pub mod RowsMeaning
pub mod RowsUnique
pub mod RowExamples

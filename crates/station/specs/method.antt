-- What the code's parts are held to, and no reader has to believe: proofs/ shows that it comes to
-- the definitions of specs/. In order: a number and a word at a place; brackets; a line; the fields
-- of a row; the runs of a mask; one line more of a head.
pub mod Numeral
pub mod Bracket
pub mod ReadLine
pub mod RowFields
pub mod Runs
pub mod HeadStep

-- Words and numbers at a place of a text, and the steps of a recogniser over them.
pub mod Decimals
pub mod Recognised

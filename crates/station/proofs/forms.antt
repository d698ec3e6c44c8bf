-- Lines as they are read.
pub mod LineForms

-- Where an input is parted; what a writing, a reading of rows and a whole input come to. No input is cut to one of which something else is printed; examples by computing.
pub mod InputParts
pub mod Outputs
pub mod InputCut
pub mod Examples

-- The laws of layer 1. What the layers above cite: the theorems; texts that compute.
pub mod Theorems
pub mod Examples
-- The meaning, in document 01's order: the causes; decimals, lines, forms; busy cells as masks; valid heads; reading, writing and both ways; how long a text is.
mod Refusal
mod Decimal
mod Text
mod Form
mod Stretches
mod BusyCells
mod ValidHead
mod Reading
mod Writing
mod WrittenRead
mod TextSize
-- The code's records. The laws about one part of the code stand beside its proofs, in the folder of its name.
mod CodeRecords
mod CopiedRecords

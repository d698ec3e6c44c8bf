-- The laws of layer 2. What the layer above cites: the theorems; frames that compute.
pub mod FreeNumber
pub mod Theorems
pub mod Examples
pub mod SupplyExamples
-- The meaning, in document 01's order: cells and the well-formed table; the well-formed frame; what is written; the placing rule and the plan; a call's jobs and the causes; the eviction order, the shortage, the least
-- eviction, the table that a call leaves and its numbers; a call by numbers alone; the room for r; the claims; the same without a cap.
mod CountedCells
mod WellFormed
mod WellFormedFrame
mod WrittenTable
mod Placing
mod PlanTheorem
mod NewJobs
mod Causes
mod EvictionOrder
mod CallShort
mod LeastEviction
mod CalledTable
mod UsedNumbers
mod CallByNumbers
mod ByCapacity
mod ClaimsHold
mod AsUncapped
-- The code's records: a head record and its cells; from the records by value to a list of them; masks; a test as 1 or 0; chains. The laws about one part of the code stand beside its proofs, in the
-- folder of its name.
mod HeadRecord
mod ListOfRecords
mod BridgeMask
mod MaskBits
mod OneBit
mod Chains

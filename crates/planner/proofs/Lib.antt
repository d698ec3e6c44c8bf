-- The laws of the static library. The layout of what is lent: the round trips, and the steps of the code.
pub mod RoundTrip
-- the layout and the lengths by worked examples
pub mod Examples
mod Steps
-- The exported functions, one by one.
mod RunText
mod EventLine
mod PlanFrame
mod WholeListing
mod RowsRead
mod RowsWritten
-- Lines handed over one by one.
pub mod HandedOver

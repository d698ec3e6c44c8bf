-- The laws of layer 3. What programs and the static library cite: the theorems; and the three demands.
pub mod Theorems
pub mod Demands
-- A list of events taken apart; one event; what events leave as it was; a call of a list; call cells; events handed over one by one; the starred frames computed; limits and the order
-- of causes held from two sides; where the supply feeds every bridge events come to what they came to without it; texts without a tie line and a supply line list what they listed; with every clock one higher events come to what they came to when a call could use the clock's own slot, and texts without these three lines list what document 01 lists. The laws about one part of the code stand beside its proofs, in the folder of its name.
mod EventList
mod OneEvent
mod KeptCells
mod ListedCalls
mod CallCells
mod HandedOver
mod Starred
mod TwoSides
mod AsUncapped
mod AsBefore
mod AsOwnSlot

-- Layer 3, the running frame. What a reader must believe: one event and a list of events; a whole
-- text; the listing; the three demands; the same where the supply feeds every bridge, before there
-- were ties and supplies, and when a call could use the clock's own slot; then what the code's
-- answers stand for, and what each entry answers and leaves, one call of it and a list of them.
pub mod Event
pub mod Text
pub mod Listing
pub mod Demands
pub mod Uncapped
pub mod Before
pub mod OwnSlot
pub mod Types
pub mod EventDone
pub mod EventEntry
pub mod HandedOver
pub mod TextDone
pub mod TextEntry
pub mod EventsDone
pub mod WroteLine
pub mod WriteListing
-- What only the code's method needs.
pub mod method

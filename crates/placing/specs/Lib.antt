-- Layer 2, placing. What a reader must believe, in document 01's order: the table; valid plans and calls; the state of a running frame; the plan; the call; the room for r; what each comes to for all inputs; what is claimed of
-- them; both without a cap, as they were; then what the code's records stand for, and what each entry answers and leaves.
pub mod Table
pub mod Valid
pub mod State
pub mod Plan
pub mod Call
pub mod Capacity
pub mod Outcomes
pub mod Claims
pub mod Uncapped
pub mod Types
pub mod Causes
pub mod PlanDone
pub mod CallDone
pub mod Entries
-- What only the code's method needs.
pub mod method

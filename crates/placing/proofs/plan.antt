-- The answers of a plan.
pub mod BusyCells
pub mod PlanAnswers

-- The answers of a call; cells that are empty already.
pub mod CallAnswers
pub mod EmptyFrom

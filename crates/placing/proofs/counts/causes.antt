-- The causes of a call by the counts.
pub mod CallCauses

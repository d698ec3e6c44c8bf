-- The causes of a frame.
pub mod FrameCauses

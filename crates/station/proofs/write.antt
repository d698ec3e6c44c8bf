-- The runs of a mask, and the text of a head line by line.
pub mod MaskRuns
pub mod HeadLines

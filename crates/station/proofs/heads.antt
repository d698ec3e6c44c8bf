-- Reading a head: one line, what it means for the reading, the loop over the lines; the round trips by value.
pub mod OneLine
pub mod StepMeaning
pub mod LineLoop
pub mod RoundTrip

-- The program `rows`. What a reader must believe: what is printed of an input.
pub mod Printed
-- What only the code's method needs.
pub mod method

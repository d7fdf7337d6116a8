-- The lines that the program `mark` prints.
pub mod Lines

-- What the program `plan` prints.
pub mod Output

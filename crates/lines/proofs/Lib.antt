-- What is known of lines.
pub mod Moves
pub mod Bounds
pub mod Fronts
pub mod Growing

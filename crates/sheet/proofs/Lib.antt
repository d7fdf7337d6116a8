-- What is known of the arrays in memory, for this crate and those above it.
pub mod Sums
pub mod Cells
pub mod Moves
pub mod Shapes

pub mod Tests
pub mod Lowest
pub mod Grids
pub mod Books
pub mod Places
pub mod Weights
pub mod Examples
-- what the search and the marks mean
pub mod Sets
pub mod Layers
pub mod Meaning
pub mod Marks
pub mod Moves
pub mod Instances
-- the theorems
pub mod Agree
pub mod Theorems

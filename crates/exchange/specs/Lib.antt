-- What the search for exchange paths looks at, and what it answers.
pub mod Graphs
pub mod Paths

-- The laws that the functions' proofs cite.
pub mod Sorting
pub mod Heights

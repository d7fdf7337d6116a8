-- The laws that the functions' proofs cite.
pub mod Wanting
pub mod Seeing

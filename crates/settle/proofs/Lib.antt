-- The laws that the functions' proofs cite.
pub mod Playing
pub mod Turns

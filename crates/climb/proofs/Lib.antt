-- The laws that the functions' proofs cite.
pub mod Later
pub mod Searching
pub mod Climbing

-- The laws that the functions' proofs cite.
pub mod Members
pub mod Unions
pub mod Waves
pub mod Collect

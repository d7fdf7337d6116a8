-- The laws that the functions' proofs cite.
pub mod Coding
pub mod Fair
pub mod Memory

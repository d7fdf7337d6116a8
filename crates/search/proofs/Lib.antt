-- The laws that the functions' proofs cite.
pub mod Donors
pub mod Answering

-- The laws that the functions' proofs cite.
pub mod Choosing
pub mod Bodies

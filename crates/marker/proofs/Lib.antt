-- The laws that the functions' proofs cite.
pub mod Files
-- for callers: demand 3
pub mod Decode
pub mod Theorems

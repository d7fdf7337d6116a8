-- The laws that the functions' proofs cite.
pub mod Sets
pub mod Sweep
-- what callers cite
pub mod Theorems

-- The laws that the functions' proofs cite.
pub mod Rows
pub mod Aiming
-- what callers cite
pub mod Theorems

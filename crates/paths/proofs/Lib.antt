-- The laws that the functions' proofs cite.
pub mod Spreading
pub mod Meeting
pub mod Walking
-- what callers cite
pub mod Bridge

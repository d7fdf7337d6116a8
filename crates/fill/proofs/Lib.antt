-- Laws that several proofs cite.
pub mod Columns
pub mod Filling
pub mod Feasible
pub mod Shifts
pub mod Keeping

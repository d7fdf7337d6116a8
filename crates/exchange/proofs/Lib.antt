-- The laws that the functions' proofs cite.
pub mod Tests
pub mod Heights
pub mod Drawing
pub mod Choosing
pub mod Finding
-- what callers cite
pub mod Theorems

-- The laws that the functions' proofs cite, and what is known of a file that the marker does not refuse.
pub mod Accepted
pub mod Readings
pub mod Taken
pub mod Lawfulness

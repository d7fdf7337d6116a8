-- Which exchange paths are wanted, and the first receiver that reaches a donor.
pub mod Tests
pub mod Donors

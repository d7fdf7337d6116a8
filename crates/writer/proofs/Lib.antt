pub mod Bounds
pub mod Checks

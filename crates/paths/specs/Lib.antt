-- What the contracts of this crate cite, and what its callers read.
pub mod Paths
pub mod Layers
pub mod Steps

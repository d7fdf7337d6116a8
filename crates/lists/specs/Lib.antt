-- What loops keep and inner contracts of several crates cite.
pub mod Arrays
pub mod Buffers

-- Laws of lists that several crates cite.
pub mod Alls
pub mod Tables
-- loops
pub mod Arrays
pub mod Buffers

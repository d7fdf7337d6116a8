-- The parts of a file in the order in which they are stored; what the whole file is, is said by the definitions of the crate `dayfile`.
pub mod Stores

-- What is searched in memory; what the whole does is said by the definitions of the crate `dayfile`.
pub mod Values

-- What the numbers of a book tell, for this crate and those above it.
pub mod Told
pub mod Books

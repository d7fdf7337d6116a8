-- The laws that the functions' proofs cite.
pub mod Books
pub mod Lists

-- What contracts between the functions that check a file cite.
pub mod Entries

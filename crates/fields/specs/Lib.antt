-- What contracts between functions that fill arrays cite.
pub mod Arrays

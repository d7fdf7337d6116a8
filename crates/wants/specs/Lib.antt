-- Paper 02's wanted totals of a book.
pub mod Wanted
-- What the contracts between functions cite.
pub mod Steps

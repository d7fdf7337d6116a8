-- The day file, in the order of paper 01: the book's bounds, the layout and what a file says, the file that is written, the table of
-- refusals, what each call answers, and what is held in memory. The theorems are in proofs/Theorems.antt.
pub mod Bounds
pub mod Layout
pub mod File
pub mod Table
pub mod Outcome
pub mod Memory

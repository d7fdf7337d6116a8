-- Paper 01's rules on lists, in its order. What they mean in the terms of the crate `fairness` is proved in proofs/Meaning.antt.
pub mod Lowest
pub mod Book
pub mod Fair
pub mod Search
pub mod Marks
pub mod Examples

-- What a reader of the theorems must believe, in the order of paper 01. The theorems are in proofs/Theorems.antt.
pub mod Sums
pub mod Instance
pub mod Classes
pub mod Leximin
pub mod Exchange
pub mod Layers
pub mod Cuts
-- paper 02's standard sheet; its theorems are in proofs/Standard.antt
pub mod Standard
-- for the proofs of the code that makes it
pub mod Raising
-- paper 02's wanted totals; their theorems are in proofs/WantedTotals.antt
pub mod Wanted
-- for the proofs of the code that replies to them
pub mod Aiming
-- for the functions of src/
pub mod Numbers

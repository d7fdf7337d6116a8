-- What is known of digits, of texts that are printed and of opening times, for this crate and those above it.
pub mod Digits
pub mod Printing
pub mod Theorems

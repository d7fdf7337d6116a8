-- What is known of reads and writes one after another, for this crate and those above it.
pub mod Turns

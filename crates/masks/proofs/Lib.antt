-- What is known of masks, for this crate and those above it.
pub mod Machine
pub mod Laws

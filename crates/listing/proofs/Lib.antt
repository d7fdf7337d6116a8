-- What is known of listings.
pub mod Sample
pub mod Bounds
pub mod Results
pub mod Instance
pub mod Memory
pub mod Listed

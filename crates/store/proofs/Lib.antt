pub mod Storing
pub mod Files
pub mod Slots

pub mod Printed
pub mod Writes

-- Text in an output buffer.
pub mod Text
pub mod Printing

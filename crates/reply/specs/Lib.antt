-- What crosses to C.
pub mod Numbers

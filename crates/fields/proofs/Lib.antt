-- Laws of the fields.
pub mod Products
-- and of arrays that are filled from a file
pub mod Filling

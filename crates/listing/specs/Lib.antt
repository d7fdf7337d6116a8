-- The text that the program `mark` prints.
pub mod Listing
-- What stands in the output buffer after the call.
pub mod Calls

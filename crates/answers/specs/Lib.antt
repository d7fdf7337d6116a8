-- The marker's answer, in numbers.
pub mod Answers
-- What crosses to C.
pub mod Numbers
-- What the parts hand to each other.
pub mod Steps

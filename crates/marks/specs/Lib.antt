-- What stands in the output buffer afterwards.
pub mod Buffer
-- What the parts of the marker answer.
pub mod Steps

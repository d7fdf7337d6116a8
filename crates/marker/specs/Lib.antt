-- What the marker answers, and what stands in the output buffer afterwards.
pub mod Marking

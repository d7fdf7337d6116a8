-- What the call replies, and what stands in the output buffer afterwards.
pub mod Fulfilling
-- What the contracts between functions cite.
pub mod Steps

mod Laws
-- for callers: what an answer's numbers tell
pub mod Telling

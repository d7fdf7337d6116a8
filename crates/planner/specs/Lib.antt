-- What the planner answers, and what stands in the output buffer afterwards.
pub mod Planning

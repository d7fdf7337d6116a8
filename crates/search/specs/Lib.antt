-- What the search answers, and what its parts do.
pub mod Steps

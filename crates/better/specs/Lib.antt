-- Which of two hand-ins is chosen, and what is handed back of it.
pub mod Choice
-- What the parts hand to each other.
pub mod Steps

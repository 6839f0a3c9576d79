pub mod Words
pub mod Answers
pub mod Outcomes
pub mod Loads
pub mod Done
pub mod Putting

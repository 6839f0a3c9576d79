pub mod Adding
pub mod Needed

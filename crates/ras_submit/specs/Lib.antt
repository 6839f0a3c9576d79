pub mod Progress
pub mod Submitting

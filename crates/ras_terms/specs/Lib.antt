pub mod Meanings
pub mod Calling
pub mod Literals
pub mod Assigning
pub mod Cases

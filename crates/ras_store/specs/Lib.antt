pub mod Sites
pub mod Stores
pub mod Lawful
pub mod Holding
pub mod Comparing
pub mod Outcomes
pub mod Stored
pub mod Following

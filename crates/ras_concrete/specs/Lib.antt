pub mod Meeting
pub mod Concretes

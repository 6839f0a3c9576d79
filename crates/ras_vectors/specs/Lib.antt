pub mod Words
pub mod Hiring
pub mod Desk
pub mod Small
pub mod Depot

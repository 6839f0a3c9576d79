pub mod Naming
pub mod Marking

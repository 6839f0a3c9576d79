pub mod Declaring
pub mod Naming

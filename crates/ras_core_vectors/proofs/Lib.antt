pub mod Quiet
pub mod Cubes
pub mod Leading
pub mod Growing
pub mod Entries
pub mod Refusing

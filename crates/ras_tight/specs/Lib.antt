pub mod Tightened
pub mod Tightening

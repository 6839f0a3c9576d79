pub mod Subsumption
pub mod Places
pub mod Widened

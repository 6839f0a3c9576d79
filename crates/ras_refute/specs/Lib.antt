pub mod Tables
pub mod Classes
pub mod Clashing
pub mod Faults
pub mod Walks

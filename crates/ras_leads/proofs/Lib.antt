pub mod Gathers
pub mod Counts
pub mod MetLarger

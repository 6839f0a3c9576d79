pub mod ListPairs
pub mod Longer
pub mod Rooms

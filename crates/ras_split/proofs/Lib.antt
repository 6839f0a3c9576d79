pub mod Listed
pub mod Stands
pub mod Filling
pub mod Owning
pub mod Parting

pub mod Bodies
pub mod Goals
pub mod Elaborating

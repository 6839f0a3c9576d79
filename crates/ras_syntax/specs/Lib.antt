pub mod Grammar
pub mod Machine
pub mod Places
pub mod Reading
pub mod Parsing

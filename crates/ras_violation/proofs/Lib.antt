pub mod Paths
pub mod Decisions
pub mod Judged
pub mod OneFault
pub mod Lines
pub mod Refused
pub mod OneText

pub mod FileFaults
pub mod Refusals

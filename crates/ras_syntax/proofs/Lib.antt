pub mod Skips
pub mod Loops
pub mod Again
pub mod Complete
pub mod Sound
pub mod First
mod Unique

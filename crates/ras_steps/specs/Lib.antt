pub mod Sights
pub mod StepFaults
pub mod ReplayFaults
pub mod Choosing
pub mod Searching

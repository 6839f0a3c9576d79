pub mod Violations
pub mod ViolationFaults
pub mod ReplayTexts
pub mod InvalidLines

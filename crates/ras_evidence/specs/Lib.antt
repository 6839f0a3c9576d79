pub mod Headers
pub mod SafeReading
pub mod EvidenceTexts
pub mod EvidenceReading
pub mod EvidenceFaults
pub mod Endings
pub mod Worked

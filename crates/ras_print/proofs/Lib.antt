pub mod Loops
pub mod Sames
pub mod SameTerms
pub mod SameSteps
pub mod SameFile

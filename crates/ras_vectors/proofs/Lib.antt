pub mod ListTests
pub mod DataTests
pub mod StateTests
pub mod Cycles
pub mod Facts
pub mod Refused
pub mod Violations
pub mod GoodEvidence

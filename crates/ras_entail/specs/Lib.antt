pub mod EscapeStates
pub mod Entailment
pub mod Judgements
pub mod Scans
pub mod Entails
pub mod Starts

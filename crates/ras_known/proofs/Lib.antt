pub mod KnownTruth
pub mod FactModels

pub mod Mended
pub mod Seen
mod StepParts
mod SharedNames
mod NoParams
mod GoalParts
mod NamedColumns
mod NoFault
mod Assembled
mod Denoted

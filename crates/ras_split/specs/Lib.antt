pub mod Among
pub mod Standing
pub mod Splits

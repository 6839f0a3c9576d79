pub mod Numbered
mod Parts
pub mod StartFits
pub mod Zipped
pub mod Fronts

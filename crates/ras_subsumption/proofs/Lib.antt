pub mod Adding
pub mod WidenedCubes
pub mod ExactTruth
pub mod FirstMaps

pub mod NextNumbers
pub mod Zeros
pub mod Images
pub mod Extended

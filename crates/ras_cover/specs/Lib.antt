pub mod Covers
pub mod Within
pub mod CaseCubes
pub mod Extensions

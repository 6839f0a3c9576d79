pub mod Partners
pub mod Fitting

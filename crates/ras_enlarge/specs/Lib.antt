pub mod Numbers
pub mod Enlarged

pub mod Reduced
pub mod Dues

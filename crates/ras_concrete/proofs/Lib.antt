pub mod Cells
pub mod Covered
pub mod Chains
pub mod AlongChains
pub mod Leading

mod Padding
mod Tables
pub mod Fronts
mod Reaching
mod Unique
mod Order

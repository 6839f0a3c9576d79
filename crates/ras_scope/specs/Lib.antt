pub mod Placing
pub mod Finding
pub mod Columns
pub mod Answering
pub mod Scopes
pub mod Agreeing
pub mod Seeing
pub mod Sorting

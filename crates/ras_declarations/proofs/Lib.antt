pub mod NewNames
pub mod Turns
pub mod Answered
pub mod ColumnParts
mod NamedLeads
mod FunctionParts
mod Initials
mod InnerNames
mod NamedParts

pub mod Words
pub mod Wrong
pub mod Processes
pub mod Denoted
pub mod Tokens
pub mod Canonicals

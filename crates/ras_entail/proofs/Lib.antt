pub mod NumberedAt
pub mod StateRows
pub mod Replacing
pub mod EscapeStates
pub mod FailingLiterals
pub mod Enough
pub mod Among
pub mod StartStates

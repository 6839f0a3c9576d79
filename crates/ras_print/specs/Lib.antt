pub mod Lookup
pub mod Calls
pub mod Items
pub mod Printed
pub mod Scopes

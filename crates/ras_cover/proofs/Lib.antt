pub mod Extending
pub mod Numbering
pub mod LargerDatabase
pub mod Implied
pub mod Extendable
pub mod Admitted
pub mod CoverLaws

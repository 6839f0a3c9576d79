pub mod Numbers
pub mod TermValues
pub mod FileValues

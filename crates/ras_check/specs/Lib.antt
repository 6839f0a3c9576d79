pub mod Judging
pub mod VerdictLines

pub mod EvidenceLaws
pub mod KindLaws
pub mod HeaderLaws
pub mod LastLaws
pub mod TailLaws
pub mod TextLaws

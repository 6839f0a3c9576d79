pub mod DatabaseLaws
pub mod RunLaws

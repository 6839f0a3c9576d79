pub mod DatabaseTexts
pub mod RunTexts
pub mod Reading

pub mod OneVerdict
pub mod CompleteTexts
pub mod Deciding
pub mod EachVerdict

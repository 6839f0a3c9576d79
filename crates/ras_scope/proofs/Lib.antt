pub mod SameTexts
pub mod UsedNames
pub mod EachRows
pub mod Following
pub mod Places
pub mod SeenNames
pub mod Reading

pub mod FirstPlaces
pub mod NumberedTerms
pub mod NumberedSteps
pub mod NumberedItems
pub mod NumberedFile

pub mod JournalTexts
pub mod JournalReading

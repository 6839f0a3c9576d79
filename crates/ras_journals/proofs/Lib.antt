pub mod EventLaws
pub mod JournalLaws

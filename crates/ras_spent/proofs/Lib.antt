pub mod GoodBelow
pub mod MetEntries
pub mod NotGood
pub mod OneFault
pub mod SomeVerdict

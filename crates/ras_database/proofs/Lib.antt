pub mod FirstPlaces
pub mod Passing
pub mod Judging
pub mod OneFault

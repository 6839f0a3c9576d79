pub mod OneFault
mod Openings

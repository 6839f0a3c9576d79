pub mod Cycles
mod OneFault

pub mod Count
pub mod Told
pub mod SinkFault
pub mod MemShelf
pub mod MemSink

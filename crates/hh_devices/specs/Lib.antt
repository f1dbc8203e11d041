pub mod DeviceChanges
pub mod Devices
pub mod MemorySink
pub mod MemorySource
pub mod Pace
pub mod StreamSink
pub mod StreamSource

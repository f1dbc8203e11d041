pub mod Arrivals
pub mod CountedReader
pub mod Memory
pub mod Ports
pub mod TimeLimit
pub mod TimedStream

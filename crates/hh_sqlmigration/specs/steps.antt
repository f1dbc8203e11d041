pub mod Facts
pub mod ToTwo
pub mod Writes

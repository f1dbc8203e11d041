pub mod Clocks
pub mod Views

pub mod Versions
pub mod steps

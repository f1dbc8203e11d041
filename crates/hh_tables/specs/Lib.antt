pub mod Ends
pub mod Places
pub mod Tables
pub mod steps

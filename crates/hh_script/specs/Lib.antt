pub mod Faults
pub mod Reports
pub mod Script
pub mod Serves
pub mod Steps
pub mod Words

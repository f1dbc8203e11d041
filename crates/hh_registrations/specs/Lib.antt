pub mod Registrations
pub mod UnitSteps
pub mod steps

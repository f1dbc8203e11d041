pub mod RegistrationHistory
pub mod RowRules

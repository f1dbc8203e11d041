pub mod OwnAccounts
pub mod Writes
pub mod steps

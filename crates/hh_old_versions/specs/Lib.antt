pub mod OldVersionMachine
pub mod OldVersionStates
pub mod OldVersions

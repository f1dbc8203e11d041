pub mod FileInputs
pub mod Inputs

pub mod Formulas
pub mod Terms
pub mod Ready
pub mod Limits
pub mod Settled
pub mod steps

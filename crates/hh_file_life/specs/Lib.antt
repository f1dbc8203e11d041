pub mod Life
pub mod steps

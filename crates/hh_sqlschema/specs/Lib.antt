pub mod Adopted
pub mod Made
pub mod Making
pub mod RiseLaws
pub mod TakenOver

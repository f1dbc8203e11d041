pub mod Forms
pub mod Frames
pub mod Giving
pub mod Reported
pub mod TakerLaws
pub mod Terms
pub mod Texts
pub mod steps

pub mod CourseLaws
pub mod GivingUpLaws
mod ReportingLaws
mod ScriptLaws
mod ServingLaws
pub use Rattle.hh_desk.proofs.EndLaws

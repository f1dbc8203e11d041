mod CrashLaws
mod DoingLaws
pub mod EndLaws
mod ErrandCrashLaws
mod ErrandLaws
pub mod GivingUpLaws
mod ReportLaws
pub mod ServedLaws
mod ServingLaws

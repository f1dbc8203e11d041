pub mod AdoptLaws
pub mod BesideLaws
pub mod ChangeLaws
pub mod ContentLaws
pub mod CrashLaws
pub mod IdleLaws
pub mod ReadLaws
pub mod ReportLaws

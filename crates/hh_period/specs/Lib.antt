pub mod Outcome
pub mod PeriodText
pub mod RejectionText
pub mod Rows
pub mod steps

pub mod Calendar
pub mod DateText
pub mod Days
pub mod TimeFaults
pub mod Zone
pub mod steps

pub mod Bodies
pub mod Causes
pub mod ReplyText
pub mod Statuses
pub mod Writes
pub mod steps

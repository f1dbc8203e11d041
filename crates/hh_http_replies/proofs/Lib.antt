mod RefusedLaws
pub mod ReplyLemmas
mod TextLemmas

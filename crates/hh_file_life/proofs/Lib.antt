pub mod AnswerLaws
pub mod LifeLaws

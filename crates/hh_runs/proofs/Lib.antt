pub mod ChangeLaws
pub mod RunKindLaws

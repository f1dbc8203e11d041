pub mod ChangeLaws
pub mod KeyLaws
pub mod UpToLaws

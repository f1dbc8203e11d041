mod Examples
pub mod KeyLaws
pub mod ReadLaws

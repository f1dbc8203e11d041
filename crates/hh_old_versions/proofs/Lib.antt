pub mod StateLaws
pub mod VersionLaws

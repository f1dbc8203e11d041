pub mod AccountLaws
pub mod BesideLaws
pub mod GroupLaws
pub mod LoadLaws
pub mod RunLaws
pub mod StayLaws
pub mod TouchLaws
pub mod UnitStepLaws

pub mod RangeLaws
mod RunRangeLaws
mod SameLaws

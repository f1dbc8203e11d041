pub mod Fields
pub mod Files
pub mod KindForms
pub mod PeriodFiles
pub mod Records
pub mod Rows

pub mod Fixed
pub mod Naturals
pub mod Quantities
pub mod Ranges
pub mod Rounding
pub mod Totals
pub mod steps

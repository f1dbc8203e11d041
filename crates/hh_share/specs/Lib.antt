pub mod Departure
pub mod Ranking
pub mod Shares
pub mod steps
pub use Rattle.hh_num.specs.Quantities
pub use Rattle.hh_num.specs.Ranges
pub use Rattle.hh_num.specs.Rounding
pub use Rattle.hh_num.specs.Totals

pub mod AgreeLaws
pub mod DayAccountedFor
pub mod DayLoads
pub mod DayPeriods
pub mod DayRows
pub mod DayRuns
pub mod DayTests
pub mod PositionKeys
pub mod PositionLists
pub mod PositionLoads
pub mod PositionMade
mod PositionNets
pub mod PositionParts
pub mod PositionSums
pub mod PositionTables
pub mod PositionWrites
pub use Rattle.hh_state_laws.proofs.RisingLaws

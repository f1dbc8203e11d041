pub mod AcceptedLaws
mod AmountLaws
pub mod ApartLaws
pub mod BalanceLaws
pub mod CompleteLaws
pub mod ConsistentLaws
pub mod CountLaws
pub mod CreditSumLaws
pub mod EffectiveLaws
mod LoadLaws
pub mod NetLaws
pub mod PostingLaws
pub mod PutLaws
mod RangeLaws
pub mod ReachLaws
pub mod ReadyLaws
pub mod ResultLaws
pub mod RisingLaws
pub mod RunLaws
pub mod RunReadLaws
pub mod RunRowLaws
pub mod RunSumLaws
pub mod SettledLaws
pub mod TurnoverLaws

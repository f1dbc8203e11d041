pub mod ContractFacts
pub mod GatherFacts
pub mod NamedFacts
pub mod PeriodFacts
pub mod TextFacts

mod Examples
pub mod LeadLaws
pub mod LookBackLaws
pub mod MarkLaws
pub mod RowFacts
pub mod SubsidiaryLaws
pub mod SuccessionLaws

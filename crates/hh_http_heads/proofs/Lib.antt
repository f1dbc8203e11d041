pub mod FieldLemmas
pub mod FrontLemmas
pub mod LengthLemmas

pub mod AnyPlaces
pub mod CommandFacts
pub mod FrontFacts
pub mod ResultFacts
pub mod StopFacts
pub mod TellFacts

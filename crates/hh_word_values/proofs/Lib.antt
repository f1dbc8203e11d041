pub mod PathFacts

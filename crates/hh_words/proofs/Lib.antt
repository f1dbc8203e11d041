pub mod GrammarFacts
pub mod KeyFacts
pub mod LineFacts
pub mod PlainFacts

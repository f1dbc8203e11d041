pub mod LineFacts
pub mod LoadFacts
pub mod RunFacts
pub mod ScriptFacts

pub mod AnyLaws
mod CrashLaws
mod KeptLaws
mod OverLaws
mod PathLaws
mod RunningLaws
mod ScriptLaws

pub mod Stores
pub mod steps
pub use Rattle.hh_keyed_rows.specs.Values
pub use Rattle.hh_sqlrows.specs.OfficeSchema
pub use Rattle.hh_sqlrows.specs.Holds
pub use Rattle.hh_sqlrows.specs.Leaving
pub use Rattle.hh_sqlschema.specs.Making
pub use Rattle.hh_sqlschema.specs.TakenOver

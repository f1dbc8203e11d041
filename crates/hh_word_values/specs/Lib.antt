pub mod Connections
pub mod Reports
pub mod Values
pub use Rattle.hh_requests.specs.declared.report

-- What is known of registrations that are kept: their keys rise, and their first dates are accepted ones.
use Rattle.hh_tables.specs.Tables.{IsTable}
use Rattle.hh_rows.specs.Keys.{lead_key_cmp}
use Rattle.hh_registrations.specs.Registrations.{BeginByLastDate, Leads}

-- the keys of the registrations rise, and none begins after the last accepted date
pub record AreInOrder (leads : Leads) : Type 0 where
  pub rising : IsTable lead_key_cmp leads
  pub dated : BeginByLastDate leads

-- The lead account of a unit on a date.
use Rattle.std.specs.Prelude.{ℕ, List, unwrap_or}
use Rattle.hh_names.specs.declared.account.Account.{Account}
use Rattle.hh_registrations.specs.Registrations.{RegistrationsView, registered_lead_on}
use Rattle.hh_rows.specs.declared.rows.UnitRegistration.{UnitRegistration}
use Rattle.hh_rules.specs.History.{Registered}

-- what is registered of units
abbrev pub registered_units : Registered → RegistrationsView
registered_units tables = record { units = tables.units; leads = tables.leads }

-- The account that leads a unit with this registration on a date: that of the unit's registration on the date. A unit that is
-- registered for a date has one there; for any other date it is the account that leads the unit last.
abbrev pub lead_on : Registered → List ℕ → UnitRegistration → ℕ → Account
lead_on tables unit u date = unwrap_or (registered_lead_on (registered_units tables) unit date) u.lead

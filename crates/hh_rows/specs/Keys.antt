-- The orders of Settlement Periods and of the keys of rows: the first field decides, then the second.
use Rattle.std.specs.declared.cmp.Ordering.{Ordering}
use Rattle.std.specs.Ordering.{nat_cmp, on, then_cmp}
use Rattle.hh_rows.specs.declared.settlement_period.SettlementPeriod.{SettlementPeriod}
use Rattle.hh_rows.specs.declared.keys.UnitPeriod.{UnitPeriod}
use Rattle.hh_rows.specs.declared.keys.ContractKey.{ContractKey}
use Rattle.hh_rows.specs.declared.keys.LeadKey.{LeadKey}
use Rattle.hh_rows.specs.declared.keys.ReallocationKey.{ReallocationKey}
use Rattle.hh_names.specs.Accounts.{bytes_cmp, account_cmp}

abbrev pub settlement_period_cmp : SettlementPeriod → SettlementPeriod → Ordering
settlement_period_cmp = then_cmp (on (λ p. p.date) nat_cmp) (on (λ p. p.period) nat_cmp)

abbrev pub unit_period_cmp : UnitPeriod → UnitPeriod → Ordering
unit_period_cmp = then_cmp (on (λ k. k.unit) bytes_cmp) (on (λ k. k.at) settlement_period_cmp)

abbrev pub contract_key_cmp : ContractKey → ContractKey → Ordering
contract_key_cmp = then_cmp (on (λ k. k.reference) bytes_cmp) (on (λ k. k.at) settlement_period_cmp)

abbrev pub reallocation_key_cmp : ReallocationKey → ReallocationKey → Ordering
reallocation_key_cmp = then_cmp (on (λ k. k.unit_period) unit_period_cmp) (on (λ k. k.account) account_cmp)

abbrev pub lead_key_cmp : LeadKey → LeadKey → Ordering
lead_key_cmp = then_cmp (on (λ k. k.unit) bytes_cmp) (on (λ k. k.from) nat_cmp)

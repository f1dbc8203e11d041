-- The orders of Settlement Periods and of keys are total, and two that they find equal are the same.
use Rattle.std.proofs.Common.{ℕ, List, ap}
use Rattle.std.specs.Cmp.{IsTotalOrder, nat_cmp_total, on_total, then_total}
use Rattle.std.specs.Ordering.{nat_cmp}
use Rattle.std.proofs.lemmas.Map.Lookups.{CmpEqualImpliesEq, exact_bytes, exact_pairs, exact_unsigned}
use Rattle.hh_names.specs.declared.account.Account.{Account}
use Rattle.hh_names.specs.Accounts.{bytes_cmp, account_cmp}
use Rattle.hh_names.proofs.AccountLaws.{account_total, bytes_total, exact_accounts}
use Rattle.hh_rows.specs.declared.keys.UnitPeriod.{UnitPeriod}
use Rattle.hh_rows.specs.declared.settlement_period.SettlementPeriod.{SettlementPeriod}
use Rattle.hh_rows.specs.Keys.{settlement_period_cmp, unit_period_cmp, contract_key_cmp, reallocation_key_cmp, lead_key_cmp}

pub settlement_period_total : IsTotalOrder settlement_period_cmp
settlement_period_total = then_total (on_total (λ p. p.date) nat_cmp_total) (on_total (λ p. p.period) nat_cmp_total)

pub unit_period_total : IsTotalOrder unit_period_cmp
unit_period_total = then_total (on_total (λ k. k.unit) bytes_total) (on_total (λ k. k.at) settlement_period_total)

pub contract_key_total : IsTotalOrder contract_key_cmp
contract_key_total = then_total (on_total (λ k. k.reference) bytes_total) (on_total (λ k. k.at) settlement_period_total)

pub reallocation_key_total : IsTotalOrder reallocation_key_cmp
reallocation_key_total = then_total (on_total (λ k. k.unit_period) unit_period_total) (on_total (λ k. k.account) account_total)

pub lead_key_total : IsTotalOrder lead_key_cmp
lead_key_total = then_total (on_total (λ k. k.unit) bytes_total) (on_total (λ k. k.from) nat_cmp_total)

pub exact_settlement_periods : CmpEqualImpliesEq settlement_period_cmp
exact_settlement_periods a b h =
    ap (λ (p : ℕ × ℕ). record { date = p.0; period = p.1 }) (exact_pairs nat_cmp nat_cmp exact_unsigned exact_unsigned (a.date, a.period) (b.date, b.period) h)

pub exact_unit_periods : CmpEqualImpliesEq unit_period_cmp
exact_unit_periods a b h =
    ap (λ (p : List ℕ × SettlementPeriod). record { unit = p.0; at = p.1 }) (exact_pairs bytes_cmp settlement_period_cmp exact_bytes exact_settlement_periods (a.unit, a.at) (b.unit, b.at) h)

pub exact_contract_keys : CmpEqualImpliesEq contract_key_cmp
exact_contract_keys a b h =
    ap (λ (p : List ℕ × SettlementPeriod). record { reference = p.0; at = p.1 }) (exact_pairs bytes_cmp settlement_period_cmp exact_bytes exact_settlement_periods (a.reference, a.at) (b.reference, b.at) h)

pub exact_reallocation_keys : CmpEqualImpliesEq reallocation_key_cmp
exact_reallocation_keys a b h =
    ap (λ (p : UnitPeriod × Account). record { unit_period = p.0; account = p.1 }) (exact_pairs unit_period_cmp account_cmp exact_unit_periods exact_accounts (a.unit_period, a.account) (b.unit_period, b.account) h)

pub exact_lead_keys : CmpEqualImpliesEq lead_key_cmp
exact_lead_keys a b h =
    ap (λ (p : List ℕ × ℕ). record { unit = p.0; from = p.1 }) (exact_pairs bytes_cmp nat_cmp exact_bytes exact_unsigned (a.unit, a.from) (b.unit, b.from) h)

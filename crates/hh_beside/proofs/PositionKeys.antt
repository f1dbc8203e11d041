-- The order of the keys of positions is total, and two keys that it finds equal are the same.
use Rattle.std.proofs.Common.{◌≡◌, refl, ap, ◌∙◌, Ordering}
use Rattle.std.specs.Prelude.{◌&&◌}
use Rattle.std.specs.Cmp.{IsTotalOrder, eq_by_cmp_equiv, on_total, then_total}
use Rattle.std.specs.Ordering.{eq_by_cmp, is_eq, ordering_then}
use Rattle.std.specs.declared.cmp.Ordering.TheVariants.{Less, Equal, Greater}
use Rattle.std.proofs.lemmas.Map.Lookups.{CmpEqualImpliesEq, exact_pairs}
use Rattle.hh_names.specs.declared.account.Account.{Account}
use Rattle.hh_names.specs.Accounts.{account_cmp, is_same_account}
use Rattle.hh_names.proofs.AccountLaws.{account_total, exact_accounts}
use Rattle.hh_rows.specs.Keys.{settlement_period_cmp}
use Rattle.hh_rows.specs.declared.settlement_period.SettlementPeriod.{SettlementPeriod}
use Rattle.hh_rows.proofs.KeyLaws.{exact_settlement_periods, settlement_period_total}
use Rattle.hh_rules.specs.Positions.{position_key_cmp}
use Rattle.hh_rules.specs.declared.positions.PositionKey.{PositionKey}

pub position_key_total : IsTotalOrder position_key_cmp
position_key_total = then_total (on_total (λ k. k.at) settlement_period_total) (on_total (λ k. k.account) account_total)

pub exact_position_keys : CmpEqualImpliesEq position_key_cmp
exact_position_keys a b h =
    ap (λ (p : SettlementPeriod × Account). record { at = p.0; account = p.1 }) (exact_pairs settlement_period_cmp account_cmp exact_settlement_periods exact_accounts (a.at, a.account) (b.at, b.account) h)

-- two keys are equal if both their parts are
is_eq-then : (a b : Ordering) → is_eq (ordering_then a b) ≡ (is_eq a && is_eq b)
is_eq-then Less b = refl
is_eq-then Equal b = refl
is_eq-then Greater b = refl

-- two positions have the same key if their Settlement Periods and their accounts are the same
pub one_key : (a b : PositionKey) → eq_by_cmp position_key_cmp b a ≡ (eq_by_cmp settlement_period_cmp a.at b.at && is_same_account a.account b.account)
one_key a b = (eq_by_cmp_equiv position_key_total).symm b a ∙ is_eq-then (settlement_period_cmp a.at b.at) (account_cmp a.account b.account)

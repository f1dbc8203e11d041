-- Readings none of which is of a Settlement Period after a last one.
use Rattle.std.proofs.Common.{◌≡◌, ℕ, ◌+◌, ◌<◌, [], ◌∷◌, length, take, get_or, refl, sym, ap, subst, ◌∙◌, true, false, cond, Ordering, None, Some}
use Rattle.std.proofs.Math.Bool.{true≢false}
use Rattle.std.proofs.lemmas.List.Elements.{All-head, All-more, All-tail, All-weaker}
use Rattle.std.specs.Cmp.{Equal-is, tied_itself, upto}
use Rattle.std.specs.FinMap.{find}
use Rattle.std.specs.Ordering.{eq_by_cmp, is_gt, is_lt, ordering_reverse}
use Rattle.std.specs.declared.cmp.Ordering.TheVariants.{Less, Equal, Greater}
use Rattle.hh_tables.specs.Tables.{Table}
use Rattle.hh_names.specs.declared.values.Reading.{Reading}
use Rattle.hh_rows.specs.Keys.{settlement_period_cmp, unit_period_cmp}
use Rattle.hh_rows.specs.declared.keys.UnitPeriod.{UnitPeriod}
use Rattle.hh_rows.specs.declared.settlement_period.SettlementPeriod.{SettlementPeriod}
use Rattle.hh_rows.proofs.KeyLaws.{exact_unit_periods, settlement_period_total}
use Rattle.hh_kept_rows.specs.steps.Parts.{NoneAfter, is_after}

-- if one Settlement Period is before another, the other is after it
turned : (a b : SettlementPeriod) → is_lt (settlement_period_cmp a b) ≡ true → is_after b a ≡ true
turned a b before = ap is_gt (settlement_period_total.antisymm b a) ∙ by (settlement_period_cmp a b) before
  where
    by : (r : Ordering) → is_lt r ≡ true → is_gt (ordering_reverse r) ≡ true
    by Less h = refl
    by Equal h = absurd (true≢false (sym h))
    by Greater h = absurd (true≢false (sym h))

-- if it is not before, the other is not after it
pub not_before : (a b : SettlementPeriod) → is_lt (settlement_period_cmp a b) ≡ false → is_after b a ≡ false
not_before a b level = ap is_gt (settlement_period_total.antisymm b a) ∙ by (settlement_period_cmp a b) level
  where
    by : (r : Ordering) → is_lt r ≡ false → is_gt (ordering_reverse r) ≡ false
    by Less h = absurd (true≢false h)
    by Equal h = refl
    by Greater h = refl

-- there is no reading after the last Settlement Period
pub none_after : (last : SettlementPeriod) (key : UnitPeriod) (readings : Table UnitPeriod Reading) → NoneAfter (Some last) readings
    → is_lt (settlement_period_cmp last key.at) ≡ true → find unit_period_cmp key readings ≡ None
none_after last key [] until before = refl
none_after last key (e ∷ readings) until before =
    elim (eq_by_cmp unit_period_cmp key e.0) as (λ b. eq_by_cmp unit_period_cmp key e.0 ≡ b → cond b (Some e.1) (find unit_period_cmp key readings) ≡ None) [
      | true ↦ λ same. absurd (true≢false (
          sym (turned last key.at before)
          ∙ ap (λ (k : UnitPeriod). is_after k.at last) (exact_unit_periods key e.0 ((Equal-is (unit_period_cmp key e.0)).0 same))
          ∙ All-head (λ (e : UnitPeriod × Reading). is_after e.0.at last ≡ false) e readings until))
      | false ↦ λ apart. none_after last key readings (All-tail (λ (e : UnitPeriod × Reading). is_after e.0.at last ≡ false) e readings until) before
    ] refl

-- if one Settlement Period is before another, it is not after it
pub before_not_after : (a b : SettlementPeriod) → is_lt (settlement_period_cmp a b) ≡ true → is_after a b ≡ false
before_not_after a b before = by (settlement_period_cmp a b) before
  where
    by : (r : Ordering) → is_lt r ≡ true → is_gt r ≡ false
    by Less h = refl
    by Equal h = refl
    by Greater h = absurd (true≢false (sym h))

pub not_after_both : (a b c : SettlementPeriod) → is_after a b ≡ false → is_after b c ≡ false → is_after a c ≡ false
not_after_both = upto settlement_period_total

-- if no reading is after one Settlement Period, none is after a later one
until_later : (a b : SettlementPeriod) (readings : Table UnitPeriod Reading) → is_after a b ≡ false → NoneAfter (Some a) readings → NoneAfter (Some b) readings
until_later a b readings later = All-weaker (λ (e : UnitPeriod × Reading). is_after e.0.at a ≡ false) (λ (e : UnitPeriod × Reading). is_after e.0.at b ≡ false) (λ e until. upto settlement_period_total e.0.at a b until later) readings

-- and none is with one more reading that is not after it
pub until_more : (last next : SettlementPeriod) (readings : Table UnitPeriod Reading) (i : ℕ) (e : UnitPeriod × Reading) → i < length readings → e ≡ get_or readings i e
    → is_after last next ≡ false → is_after e.0.at next ≡ false → NoneAfter (Some last) (take i readings) → NoneAfter (Some next) (take (i + 1) readings)
until_more last next readings i e inside is later own so_far =
    All-more (λ (e : UnitPeriod × Reading). is_after e.0.at next ≡ false) readings i e inside (until_later last next (take i readings) later so_far)
    (subst (λ (e : UnitPeriod × Reading). is_after e.0.at next ≡ false) is own)

pub not_after_itself : (a : SettlementPeriod) → is_after a a ≡ false
not_after_itself a = ap is_gt (tied_itself settlement_period_total a)

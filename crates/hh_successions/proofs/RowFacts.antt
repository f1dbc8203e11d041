-- What an accepted row of a known unit is: a widening that keeps the first date of the last of several registrations, or a succession
-- that begins later and leaves no day out.
use Rattle.std.proofs.Common.{◌≡◌, ◌+◌, ◌<◌, ◌≤◌, ℕ, List, true, false, cond, refl, sym, ap, ◌∙◌, arith}
use Rattle.std.specs.Prelude.{◌⊎◌, nat_le, nat_lt, ◌&&◌, ◌||◌}
use Rattle.std.proofs.Common.{inl, inr}
use Rattle.std.proofs.lemmas.Bool.{and_cases, and_from, and_parts, le-leb, leb-false, leb-true, ltb-false, or_parts}
use Rattle.hh_tables.proofs.TableLaws.{false_is_not_true}
use Rattle.hh_names.specs.Accounts.{is_same_account}
use Rattle.hh_rows.specs.DateRanges.{Range, earlier, holds}
use Rattle.hh_rows.specs.declared.rows.UnitRegistration.{UnitRegistration}
use Rattle.hh_registrations.specs.Registrations.{Lead}
use Rattle.hh_rules.specs.Refusals.{is_shrunk, is_unit_moved}

-- ---- ranges

pub holds_parts : (r : Range) (date : ℕ) → holds r date ≡ true → (r.from ≤ date) × (date ≤ r.to)
holds_parts r date held = let parts = and_parts (nat_le r.from date) (nat_le date r.to) held in (leb-true _ _ parts.0, leb-true _ _ parts.1)

pub holds_from : (r : Range) (date : ℕ) → r.from ≤ date → date ≤ r.to → holds r date ≡ true
holds_from r date low high = and_from (nat_le r.from date) (nat_le date r.to) (le-leb _ _ low) (le-leb _ _ high)

pub off_range : (r : Range) (date : ℕ) → holds r date ≡ false → r.from ≤ date → date ≤ r.to → ⊥
off_range r date off low high = false_is_not_true (sym off ∙ holds_from r date low high)

-- the earlier of two dates
pub earlier_is : (a b : ℕ) → ((earlier a b ≡ a) × (a ≤ b)) ⊎ ((earlier a b ≡ b) × (b < a))
earlier_is a b = elim (nat_le a b) as (λ t. nat_le a b ≡ t → ((cond t a b ≡ a) × (a ≤ b)) ⊎ ((cond t a b ≡ b) × (b < a))) [
  | true ↦ λ is. inl (refl, leb-true a b is)
  | false ↦ λ is. inr (refl, leb-false a b is)
] refl

pub earlier_left : (a b : ℕ) → earlier a b ≤ a
earlier_left a b = elim (nat_le a b) as (λ t. nat_le a b ≡ t → cond t a b ≤ a) [ true ↦ λ is. omega arith | false ↦ λ is. (let below : b < a = leb-false a b is in omega arith) ] refl

pub earlier_right : (a b : ℕ) → earlier a b ≤ b
earlier_right a b = elim (nat_le a b) as (λ t. nat_le a b ≡ t → cond t a b ≤ b) [ true ↦ λ is. leb-true a b is | false ↦ λ is. omega arith ] refl

-- ---- the rule of rows of a known unit

-- one of two tests fails; if it isn't the second, it is the first
not_both : (a b c d : ℕ) → (nat_lt a b && nat_lt c d) ≡ false → c < d → b ≤ a
not_both a b c d none second = by_cases (and_cases (nat_lt a b) (nat_lt c d) none)
  where
    by_cases : (nat_lt a b ≡ false) ⊎ (nat_lt c d ≡ false) → b ≤ a
    by_cases (inl off) = ltb-false a b off
    by_cases (inr off) = let d_low : d ≤ c = ltb-false c d off in absurd (omega arith)

-- the last registration, if it began on this date, of a unit that is registered so
abbrev pub last_at : List ℕ → ℕ → UnitRegistration → Lead
last_at unit start known = (record { unit = unit; from = start }, record { lead = known.lead; to = known.range.to })

-- a row that widens it
pub record Widens (known : UnitRegistration) (start : ℕ) (new : UnitRegistration) : Type 0 where
  pub low : new.range.from ≤ start
  pub keeps : known.range.from < start → start ≤ new.range.from
  pub high : known.range.to ≤ new.range.to

-- a row that succeeds it
pub record Succeeds (known : UnitRegistration) (start : ℕ) (new : UnitRegistration) : Type 0 where
  pub later : start < new.range.from
  pub adjoins : new.range.from ≤ known.range.to + 1
  pub high : known.range.to ≤ new.range.to

module _ (unit : List ℕ) (known : UnitRegistration) (start : ℕ) (new : UnitRegistration)
    (in_range : is_shrunk known (last_at unit start known) new ≡ false) (in_place : is_unit_moved known (last_at unit start known) new ≡ false) where
  ends_late : known.range.to ≤ new.range.to
  ends_late = ltb-false new.range.to known.range.to (or_parts (nat_lt new.range.to known.range.to) (is_same_account known.lead new.lead && nat_lt start new.range.from) in_range).0

  begins_low : (is_same_account known.lead new.lead && nat_lt start new.range.from) ≡ false
  begins_low = (or_parts (nat_lt new.range.to known.range.to) (is_same_account known.lead new.lead && nat_lt start new.range.from) in_range).1

  placed : cond (is_same_account known.lead new.lead) (nat_lt new.range.from start && nat_lt known.range.from start) (nat_le new.range.from start || nat_lt (known.range.to + 1) new.range.from) ≡ false
  placed = (or_parts _ _ in_place).1

  pub widens : is_same_account known.lead new.lead ≡ true → Widens known start new
  widens same = record {
    low = ltb-false start new.range.from (sym (ap (λ b. b && nat_lt start new.range.from) same) ∙ begins_low);
    keeps = λ several. not_both new.range.from start known.range.from start
        (sym (ap (λ b. cond b (nat_lt new.range.from start && nat_lt known.range.from start) (nat_le new.range.from start || nat_lt (known.range.to + 1) new.range.from)) same) ∙ placed) several;
    high = ends_late;
  }

  pub succeeds : is_same_account known.lead new.lead ≡ false → Succeeds known start new
  succeeds other =
      let parts = or_parts (nat_le new.range.from start) (nat_lt (known.range.to + 1) new.range.from)
      (sym (ap (λ b. cond b (nat_lt new.range.from start && nat_lt known.range.from start) (nat_le new.range.from start || nat_lt (known.range.to + 1) new.range.from)) other) ∙ placed) in
      record {
        later = leb-false new.range.from start parts.0;
        adjoins = ltb-false (known.range.to + 1) new.range.from parts.1;
        high = ends_late;
      }

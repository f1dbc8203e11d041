-- Registrations of one unit are in the order of their first dates; those of different units or dates are different.
use Rattle.std.proofs.Common.{◌≡◌, ◌<◌, ℕ, List, false, refl, sym, ap, subst, ◌∙◌, Ordering}
use Rattle.std.specs.Cmp.{ranks, tied_itself}
use Rattle.std.specs.Ordering.{MatchOrdering, eq_by_cmp, is_eq, nat_cmp, ordering_then}
use Rattle.std.specs.declared.cmp.Ordering.TheVariants.{Less, Equal, Greater}
use Rattle.hh_names.specs.Accounts.{bytes_cmp}
use Rattle.hh_names.proofs.AccountLaws.{bytes_total}
use Rattle.hh_rows.specs.Keys.{lead_key_cmp}
use Rattle.hh_rows.specs.declared.keys.LeadKey.{LeadKey}

-- the key of a unit's registration that begins on a date
abbrev pub at : List ℕ → ℕ → LeadKey
at unit from = record { unit = unit; from = from }

-- of registrations of one unit the one that is below begins before
pub begins_before : (unit : List ℕ) (a b : ℕ) → lead_key_cmp (record { unit = unit; from = a }) (record { unit = unit; from = b }) ≡ Less → a < b
begins_before unit a b below =
    let of_dates : nat_cmp a b ≡ Less = ap (λ r. ordering_then r (nat_cmp a b)) (sym (tied_itself bytes_total unit)) ∙ below in
    subst (λ r. MatchOrdering r (a < b) (a ≡ b) (b < a)) of_dates (ranks a b)

apart_first : (a b : Ordering) → is_eq a ≡ false → is_eq (ordering_then a b) ≡ false
apart_first Less b apart = refl
apart_first Equal b apart = cc
apart_first Greater b apart = refl

-- registrations of different units are different
pub units_apart : (a b : LeadKey) → eq_by_cmp bytes_cmp a.unit b.unit ≡ false → eq_by_cmp lead_key_cmp a b ≡ false
units_apart a b apart = apart_first (bytes_cmp a.unit b.unit) (nat_cmp a.from b.from) apart

apart_second : (a b : Ordering) → is_eq b ≡ false → is_eq (ordering_then a b) ≡ false
apart_second Less b apart = refl
apart_second Equal b apart = apart
apart_second Greater b apart = refl

-- so are those of different dates
pub dates_apart : (a b : LeadKey) → eq_by_cmp nat_cmp a.from b.from ≡ false → eq_by_cmp lead_key_cmp a b ≡ false
dates_apart a b apart = apart_second (bytes_cmp a.unit b.unit) (nat_cmp a.from b.from) apart

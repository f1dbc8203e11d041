-- The properties of an accepted row; and that the refusal of a row is the one with the least number.
use Rattle.std.proofs.Common.{◌≡◌, ◌∙◌, ◌<◌, ◌≤◌, List, [], ◌∷◌, refl, sym, ap, subst, Bool, true, false, le_refl, arith}
use Rattle.std.specs.Prelude.{ℕ, nat_le, ℤ, ◌+ℤ◌, ◌≤ℤ◌, int_lt, ◌&&◌, Option, Some, None, Result, Ok, Err, IfErr, is_none, if◌then◌else◌}
use Rattle.std.proofs.lemmas.Bool.{and_parts}
use Rattle.std.proofs.lemmas.Bool.Decides.{nat_tests}
use Rattle.std.proofs.lemmas.Int.{ints}
use Rattle.std.specs.FinMap.{find}
use Rattle.std.specs.List.{list_all}
use Rattle.std.proofs.lemmas.Option.{same_Some}
use Rattle.hh_tables.proofs.TableLaws.{false_is_not_true}
use Rattle.hh_names.specs.Accounts.{bytes_cmp}
use Rattle.hh_names.specs.Faults.{ByRefusal, first_met, refusal_number, IsLeast}
use Rattle.hh_names.specs.declared.fault.Fault.{Fault}
use Rattle.hh_names.specs.declared.fault.Refusal.{Refusal}
use Rattle.hh_names.specs.declared.fault.Refusal.TheVariants as refusal
use Rattle.hh_rows.specs.declared.rows.Row.{Row}
use Rattle.hh_rows.specs.declared.rows.Row.TheVariants as row
use Rattle.hh_rows.specs.Quantities.{hundred_percent}
use Rattle.hh_rules.specs.declared.timing.Timing.{Timing}
use Rattle.hh_rules.specs.steps.Effects.{HasRoomFor}
use Rattle.hh_rules.specs.Lateness.{Timetable, accepted_at, comes_in_time, has_its_period, is_in_time, lacks_period, timing_by, timing_of}
use Rattle.hh_rules.specs.Percents.{percent_of_others}
use Rattle.hh_rules.specs.Refusals.{Standing, contract_refusals, meter_refusals, most_parties, most_units, party_refusals, price_refusals, reallocation_refusals, refusals_of, unit_refusals}

-- none of the conditions of a list is met
abbrev NoneMet : List (Refusal × Bool) → Type 0
NoneMet [] = Unit {0}
NoneMet (r ∷ rs) = (r.1 ≡ false) × NoneMet rs

none_met : (rs : List (Refusal × Bool)) → first_met rs ≡ None → NoneMet rs
none_met [] none = tt
none_met (r ∷ rs) none = elim r.1 as (λ b. (if b then Some r.0 else first_met rs) ≡ None → (b ≡ false) × NoneMet rs) [
  | true ↦ λ e. cc
  | false ↦ λ e. (refl, none_met rs e)
] none

below : {X : Type 0} (o : Option X) (most count : ℕ) → (is_none o && nat_le most count) ≡ false → o ≡ None → count < most
below None most count e none = grind (arith, nat_tests)
below (Some x) most count e none = cc

within : (in_time : Bool) (most sum : ℤ) → (in_time && int_lt most sum) ≡ false → in_time ≡ true → sum ≤ℤ most
within true most sum e t = grind (arith, ints)
within false most sum e t = cc

-- an accepted row's period exists on its date
lacks_none : (timetable : Timetable) (standing : Standing) (moment : ℤ) (r : Row)
    → first_met (refusals_of standing (timing_of timetable (accepted_at moment r)) r) ≡ None
    → lacks_period (timing_of timetable (accepted_at moment r)) ≡ false
lacks_none timetable standing moment (row.Party r) none = refl
lacks_none timetable standing moment (row.Unit r) none = refl
lacks_none timetable standing moment (row.Meter r) none = (none_met (meter_refusals standing (timing_of timetable (accepted_at moment (row.Meter r))) r) none).1.1.0
lacks_none timetable standing moment (row.Price r) none = (none_met (price_refusals (timing_of timetable (accepted_at moment (row.Price r)))) none).0
lacks_none timetable standing moment (row.Contract r) none = (none_met (contract_refusals standing (timing_of timetable (accepted_at moment (row.Contract r))) r) none).1.1.0
lacks_none timetable standing moment (row.Reallocation r) none = (none_met (reallocation_refusals standing (timing_of timetable (accepted_at moment (row.Reallocation r))) r) none).1.1.1.0

-- if the date has the period, the row comes in time exactly if it comes before its deadline
in_time_by : (has_period in_time : Bool) → lacks_period (timing_by has_period in_time) ≡ false → comes_in_time (timing_by has_period in_time) ≡ in_time
in_time_by true true e = refl
in_time_by true false e = refl
in_time_by false in_time e = cc

pub accepted_has_room : (standing : Standing) (timing : Timing) (r : Row) → first_met (refusals_of standing timing r) ≡ None → HasRoomFor (comes_in_time timing) r standing
accepted_has_room standing timing (row.Party r) none =
    below (find bytes_cmp r.party standing.tables.parties) most_parties standing.party_count (none_met (party_refusals standing r) none).1.0
accepted_has_room standing timing (row.Unit r) none =
    below (find bytes_cmp r.unit standing.tables.units) most_units standing.unit_count (none_met (unit_refusals standing r) none).1.1.1.1.1.0
accepted_has_room standing timing (row.Meter r) none = tt
accepted_has_room standing timing (row.Price r) none = tt
accepted_has_room standing timing (row.Contract r) none = tt
accepted_has_room standing timing (row.Reallocation r) none =
    within (comes_in_time timing) hundred_percent (percent_of_others r.key standing.tables.reallocations +ℤ r.reallocation.percent) (none_met (reallocation_refusals standing timing r) none).1.1.1.1.1.0

-- the refusals of each kind are in the order of their numbers
abbrev none_below : ℕ → List (Refusal × Bool) → Bool
none_below n rs = list_all (λ r. nat_le n (refusal_number r.0)) rs

abbrev rises : List (Refusal × Bool) → Bool
rises [] = true
rises (r ∷ rs) = none_below (refusal_number r.0) rs && rises rs

rising : (standing : Standing) (timing : Timing) (r : Row) → rises (refusals_of standing timing r) ≡ true
rising standing timing (row.Party r) = refl
rising standing timing (row.Unit r) = refl
rising standing timing (row.Meter r) = refl
rising standing timing (row.Price r) = refl
rising standing timing (row.Contract r) = refl
rising standing timing (row.Reallocation r) = refl

at_most : (m n : ℕ) → nat_le m n ≡ true → m ≤ n
at_most m n e = grind (arith, nat_tests)

none_less : (least : Refusal) (rs : List (Refusal × Bool)) → none_below (refusal_number least) rs ≡ true → IsLeast least rs
none_less least [] e = tt
none_less least (r ∷ rs) e =
    let halves = and_parts (nat_le (refusal_number least) (refusal_number r.0)) (none_below (refusal_number least) rs) e in
    (λ met. at_most (refusal_number least) (refusal_number r.0) halves.0, none_less least rs halves.1)

-- so the first refusal whose condition is met has the least number
first_is_least : (rs : List (Refusal × Bool)) (least : Refusal) → rises rs ≡ true → first_met rs ≡ Some least → IsLeast least rs
first_is_least [] least in_order is = tt
first_is_least (r ∷ rs) least in_order is =
    let halves = and_parts (none_below (refusal_number r.0) rs) (rises rs) in_order in
    elim r.1 as (λ b. r.1 ≡ b → (if b then Some r.0 else first_met rs) ≡ Some least → IsLeast least (r ∷ rs)) [
      | true ↦ λ met e. subst (λ x. IsLeast x (r ∷ rs)) (same_Some r.0 least e) (λ again. le_refl (refusal_number r.0), none_less r.0 rs halves.0)
      | false ↦ λ unmet e. (λ met. absurd (false_is_not_true (sym unmet ∙ met)), first_is_least rs least halves.1 e)
    ] refl is

-- a row that is judged by the timing found for it, at the moment passed on
module _ (timetable : Timetable) (standing : Standing) (z moment : ℤ) (r : Row) (timing : Timing) (answer : Option Refusal) (passed : z ≡ moment)
    (timed : timing ≡ timing_of timetable (accepted_at z r)) (told : answer ≡ first_met (refusals_of standing timing r)) where
  timed_at : timing ≡ timing_of timetable (accepted_at moment r)
  timed_at = timed ∙ ap (λ m. timing_of timetable (accepted_at m r)) passed

  pub told_at : answer ≡ first_met (refusals_of standing (timing_of timetable (accepted_at moment r)) r)
  told_at = told ∙ ap (λ t. first_met (refusals_of standing t r)) timed_at

  pub least_told : (least : Refusal) → answer ≡ Some least → IsLeast least (refusals_of standing (timing_of timetable (accepted_at moment r)) r)
  least_told least is =
      first_is_least (refusals_of standing (timing_of timetable (accepted_at moment r)) r) least (rising standing (timing_of timetable (accepted_at moment r)) r) (sym told_at ∙ is)

  pub in_time_told : answer ≡ None → comes_in_time timing ≡ is_in_time timetable (accepted_at moment r)
  in_time_told none =
      ap comes_in_time timed_at
      ∙ in_time_by (has_its_period timetable.midnight r) (is_in_time timetable (accepted_at moment r)) (lacks_none timetable standing moment r (sym told_at ∙ none))

-- if no condition is met, no refusal that is met has a lesser number
none_is_least : (rs : List (Refusal × Bool)) (least : Refusal) → NoneMet rs → IsLeast least rs
none_is_least [] least none = tt
none_is_least (r ∷ rs) least none = (λ met. absurd (false_is_not_true (sym none.0 ∙ met)), none_is_least rs least none.1)

pub least_of_none : {X : Type 0} (rs : List (Refusal × Bool)) → first_met rs ≡ None → (r : Result X Fault) → IfErr r (λ fault. IsLeast fault.refusal rs)
least_of_none rs none (Ok x) = tt
least_of_none rs none (Err fault) = none_is_least rs fault.refusal (none_met rs none)

-- no row is refused with the refusal for memory
abbrev is_rows : Refusal → Bool
is_rows refusal.Memory = false
is_rows _ = true

all_of_rows : (standing : Standing) (timing : Timing) (r : Row) → list_all (λ c. is_rows c.0) (refusals_of standing timing r) ≡ true
all_of_rows standing timing (row.Party r) = refl
all_of_rows standing timing (row.Unit r) = refl
all_of_rows standing timing (row.Meter r) = refl
all_of_rows standing timing (row.Price r) = refl
all_of_rows standing timing (row.Contract r) = refl
all_of_rows standing timing (row.Reallocation r) = refl

first_of_rows : (rs : List (Refusal × Bool)) (why : Refusal) → list_all (λ c. is_rows c.0) rs ≡ true → first_met rs ≡ Some why → is_rows why ≡ true
first_of_rows [] why all is = cc
first_of_rows (r ∷ rs) why all is =
    let halves = and_parts (is_rows r.0) (list_all (λ c. is_rows c.0) rs) all in
    elim r.1 as (λ b. (if b then Some r.0 else first_met rs) ≡ Some why → is_rows why ≡ true) [
      | true ↦ λ e. subst (λ x. is_rows x ≡ true) (same_Some r.0 why e) halves.0
      | false ↦ λ e. first_of_rows rs why halves.1 e
    ] is

by_rows : (why : Refusal) (P Q : Type 0) → is_rows why ≡ true → Q → ByRefusal why P Q
by_rows why P Q = elim why as (λ why. is_rows why ≡ true → Q → ByRefusal why P Q) [ refusal.Memory ↦ λ e q. absurd (false_is_not_true e) | _ ↦ λ e q. q ]

pub by_row_refusal : (standing : Standing) (timing : Timing) (r : Row) (why : Refusal) (P Q : Type 0) → first_met (refusals_of standing timing r) ≡ Some why → Q → ByRefusal why P Q
by_row_refusal standing timing r why P Q is = by_rows why P Q (first_of_rows (refusals_of standing timing r) why (all_of_rows standing timing r) is)

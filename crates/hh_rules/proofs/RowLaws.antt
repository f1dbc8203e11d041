-- What one more row changes, and what it leaves.
use Rattle.std.proofs.Common.{◌≡◌, ℤ, Bool, true, false, cond, refl, sym, ap, subst, ◌∙◌, Option, Some, None, Ordering}
use Rattle.std.specs.Prelude.{is_some}
use Rattle.std.specs.Cmp.{IsTotalOrder, Equal-is, eq_by_cmp_equiv}
use Rattle.std.specs.Ordering.{eq_by_cmp}
use Rattle.std.specs.declared.cmp.Ordering.TheVariants.{Equal}
use Rattle.std.specs.FinMap.{find, put}
use Rattle.std.specs.FinMap.Entries.{find-put}
use Rattle.std.proofs.lemmas.Map.Lookups.{exact_bytes}
use Rattle.hh_tables.proofs.TableLaws.{false_is_not_true}
use Rattle.hh_tables.specs.Tables.{Table}
use Rattle.hh_names.specs.Accounts.{bytes_cmp}
use Rattle.hh_names.proofs.AccountLaws.{bytes_total}
use Rattle.hh_rows.specs.Keys.{contract_key_cmp, reallocation_key_cmp}
use Rattle.hh_rows.proofs.KeyLaws.{contract_key_total, reallocation_key_total, settlement_period_total, unit_period_total}
use Rattle.hh_rows.specs.declared.rows.Row.{Row}
use Rattle.hh_rows.specs.declared.rows.Row.TheVariants as row
use Rattle.hh_rules.specs.Entries.{contract_entry, reallocation_entry, reference_entry}
use Rattle.hh_rules.specs.History.{Registered}
use Rattle.hh_rules.specs.Lateness.{Timetable, Accepted, accepted_at, is_in_time}
use Rattle.hh_rules.specs.declared.row_done.RowDone.{RowDone}
use Rattle.hh_rules.specs.declared.row_done.RowDone.TheVariants.{Applied, Late}
use Rattle.hh_rules.proofs.StandingLaws.{standing-append}
use Rattle.hh_rules.specs.Effects.{KeepsRowsInForce, ReplacesRowOf, IsOneMoreRow, put_in_time, put_new, row_done, standing_with, with_row}
use Rattle.hh_rules.specs.Refusals.{Standing}

-- a row that is in time is not late
not_late : {X : Type 0} → true ≡ false → X
not_late late = absurd (false_is_not_true (sym late))

-- a late row changes no row in force
module _ (timetable : Timetable) (moment : ℤ) (tables : Registered) where
  keeps_rows_in_force : (r : Row) → is_in_time timetable (accepted_at moment r) ≡ false
      → KeepsRowsInForce tables (with_row (is_in_time timetable (accepted_at moment r)) r tables)
  keeps_rows_in_force (row.Party r) late = not_late late
  keeps_rows_in_force (row.Unit r) late = not_late late
  keeps_rows_in_force (row.Meter r) late = not_late late
  keeps_rows_in_force (row.Price r) late = not_late late
  keeps_rows_in_force (row.Contract r) late = record {
    parties = refl;
    units = refl;
    leads = refl;
    meters = refl;
    prices = refl;
    contracts = ap (λ t. put_in_time contract_key_cmp t (contract_entry (row.Contract r)) tables.contracts) late;
    reallocations = refl;
  }
  keeps_rows_in_force (row.Reallocation r) late = record {
    parties = refl;
    units = refl;
    leads = refl;
    meters = refl;
    prices = refl;
    contracts = refl;
    reallocations = ap (λ t. put_in_time reallocation_key_cmp t (reallocation_entry (row.Reallocation r)) tables.reallocations) late;
  }

module _ {K V : Type 0} {R : K → K → Ordering} (o : IsTotalOrder R) where
  -- putting a row under a key replaces that row, and no other
  replaced : (key : K) (value : V) (old new : Table K V) → new ≡ put R key value old → ReplacesRowOf R key value old new
  replaced key value old new is other = ap (find R other) is ∙ find-put R o other key value old

  -- an entry put only if its key is new leaves the keys that are there
  kept-put_new : ((x y : K) → R x y ≡ Equal → x ≡ y) → (e : Option (K × V)) (table : Table K V) (q : K)
      → is_some (find R q table) ≡ true → find R q (put_new R e table) ≡ find R q table
  kept-put_new exact None table q there = refl
  kept-put_new exact (Some e) table q there =
      elim (is_some (find R e.0 table)) as (λ b. is_some (find R e.0 table) ≡ b → find R q (cond b table (put R e.0 e.1 table)) ≡ find R q table) [
        | true ↦ λ known. refl
        | false ↦ λ new. find-put R o q e.0 e.1 table ∙ apart new (eq_by_cmp R q e.0) refl
      ] refl
    where
      apart : is_some (find R e.0 table) ≡ false → (b : Bool) → eq_by_cmp R q e.0 ≡ b → cond b (Some e.1) (find R q table) ≡ find R q table
      apart new false differs = refl
      apart new true same = absurd (false_is_not_true (sym new ∙ ap (λ k. is_some (find R k table)) (sym (exact q e.0 ((Equal-is (R q e.0)).0 same))) ∙ there))

  -- an entry put only if its key is new is found, if the key was new
  found-put_new : (key : K) (value : V) (table : Table K V) → find R key table ≡ None → find R key (put_new R (Some (key, value)) table) ≡ Some value
  found-put_new key value table new =
      ap (λ b. find R key (cond b table (put R key value table))) (ap is_some new)
      ∙ find-put R o key key value table
      ∙ ap (λ b. cond b (Some value) (find R key table)) ((eq_by_cmp_equiv o).refl key)

-- the outcome of a row tells whether it was in time
late_is : (in_time first fixes : Bool) (done : RowDone) → done ≡ row_done in_time first → done ≡ Late fixes → in_time ≡ false
late_is true first fixes done is late = cc
late_is false first fixes done is late = refl

applied_is : (in_time first fixes : Bool) (done : RowDone) → done ≡ row_done in_time first → done ≡ Applied fixes → in_time ≡ true
applied_is true first fixes done is applied = refl
applied_is false first fixes done is applied = cc

-- an accepted row changes what one more row has to change
pub one_more_row : (timetable : Timetable) (a : Accepted) (old new : Standing) (done : RowDone)
    → new ≡ standing_with (is_in_time timetable a) a.row old → (first : Bool) → done ≡ row_done (is_in_time timetable a) first → IsOneMoreRow timetable a old new done
one_more_row timetable a old new done changed first became =
    let in_time : Bool = is_in_time timetable a in
    let tables : new.tables ≡ with_row in_time a.row old.tables = ap (λ s. s.tables) changed in
    record {
      late = λ fixes late. subst (KeepsRowsInForce old.tables) (sym tables) (keeps_rows_in_force timetable a.moment old.tables a.row (late_is in_time first fixes done became late));
      meter = λ r is. replaced unit_period_total r.key r.reading _ _ (ap (λ t. t.meters) tables ∙ ap (λ x. (with_row in_time x old.tables).meters) is);
      price = λ r is. replaced settlement_period_total r.at r.price _ _ (ap (λ t. t.prices) tables ∙ ap (λ x. (with_row in_time x old.tables).prices) is);
      contract = λ r is fixes applied. replaced contract_key_total r.key r.contract.volume _ _
          (ap (λ t. t.contracts) tables ∙ (λ i. (with_row (applied_is in_time first fixes done became applied i) (is i) old.tables).contracts));
      reallocation = λ r is fixes applied. replaced reallocation_key_total r.key r.reallocation _ _
          (ap (λ t. t.reallocations) tables ∙ (λ i. (with_row (applied_is in_time first fixes done became applied i) (is i) old.tables).reallocations));
      fixes = λ r is unknown. ap (λ t. find bytes_cmp r.key.reference t.references) tables
          ∙ ap (λ x. find bytes_cmp r.key.reference (with_row in_time x old.tables).references) is
          ∙ found-put_new bytes_total r.key.reference r.contract.counterparties old.tables.references unknown;
      keeps = λ reference there. ap (λ t. find bytes_cmp reference t.references) tables
          ∙ kept-put_new bytes_total exact_bytes (reference_entry a.row) old.tables.references reference there;
      looks_back = λ history stands. changed ∙ ap (standing_with in_time a.row) stands ∙ standing-append timetable history a;
    }

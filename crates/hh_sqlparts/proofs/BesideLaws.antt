-- What is read of what is kept beside the rows of a date is all that is kept for the date.
use Rattle.std.proofs.Common.{◌≡◌, ◌==◌, ◌∙◌, ℕ, List, [], ◌∷◌, length, Bool, true, false, cond, map, refl, sym, ap, subst, arith, Option, Some}
use Rattle.std.specs.Prelude.{◌-◌, ◌||◌, filter, slice_get, Result, Ok, Err, IfOk}
use Rattle.std.specs.Cmp.{Equal-is, tied_itself, unsigned_tied}
use Rattle.std.specs.FinMap.{find}
use Rattle.std.specs.Option.{IfSome}
use Rattle.std.specs.Ordering.{eq_by_cmp, is_eq, nat_cmp}
use Rattle.std.specs.Cmp.{nat_cmp_total}
use Rattle.sqlite_trees.specs.Tree.{Trees}
use Rattle.hh_rows.specs.Keys.{settlement_period_cmp}
use Rattle.hh_rows.specs.declared.settings.Settings.{Settings}
use Rattle.hh_rows.specs.declared.settlement_period.SettlementPeriod.{SettlementPeriod}
use Rattle.hh_rows.proofs.KeyLaws.{exact_settlement_periods}
use Rattle.hh_rules.specs.Positions.{position_key_cmp}
use Rattle.hh_runs.specs.declared.run_key.RunKey.{RunKey}
use Rattle.hh_runs.specs.declared.summary.Summary.{Summary}
use Rattle.hh_states.specs.Runs.{last_of, run_key_cmp}
use Rattle.hh_states.specs.Beside.{is_among, latest_on}
use Rattle.hh_kept_rows.proofs.PositionKeys.{exact_position_keys}
use Rattle.hh_kept_rows.specs.DayBeside.{IsBesideOf}
use Rattle.hh_kept_rows.specs.day_beside.DayBeside.{DayBeside}
use Rattle.hh_sqlrows.specs.Contents.{beside_in, content_of, result_of, touched_periods}
use Rattle.hh_sqlrows.specs.Forms.{rows_under_keys}
use Rattle.hh_sqlrows.specs.OfficeTables as tables
use Rattle.hh_sqlparts.proofs.NamedRows.{tested_kept}

-- ---- the latest run

last_at : {X : Type 0} (x : X) (xs : List X) → last_of (x ∷ xs) ≡ slice_get (x ∷ xs) (length xs)
last_at x [] = refl
last_at x (y ∷ xs) = last_at y xs

-- the last item of a list is at its last place
pub last_there : {X : Type 0} (xs : List X) → slice_get xs (length xs - 1) ≡ last_of xs
last_there [] = refl
last_there (x ∷ xs) =
    let less : length (x ∷ xs) - 1 ≡ length xs = omega arith in
    ap (slice_get (x ∷ xs)) less ∙ sym (last_at x xs)

-- the runs of a date, by either test for equal dates
pub runs_on_date : (date : ℕ) (runs : List (RunKey × Summary)) → filter (λ e. is_eq (nat_cmp e.0.date date)) runs ≡ filter (λ e. e.0.date == date) runs
runs_on_date date runs i = filter (λ e. unsigned_tied e.0.date date i) runs

-- ---- the rows of a run

-- if a function is applied to each item, those results that pass a test are those of the items whose result passes
pub kept_made : {X Y : Type 0} (test : Y → Bool) (f : X → Y) (xs : List X) → map f (filter (λ x. test (f x)) xs) ≡ filter test (map f xs)
kept_made test f [] = refl
kept_made test f (x ∷ xs) = elim (test (f x)) as (λ b. map f (cond b (x ∷ filter (λ y. test (f y)) xs) (filter (λ y. test (f y)) xs)) ≡ cond b (f x ∷ filter test (map f xs)) (filter test (map f xs))) [
  | true ↦ ap (λ ys. f x ∷ ys) (kept_made test f xs)
  | false ↦ kept_made test f xs
]

-- a table of the rows of a run has the rows of the latest run
pub of_run : {T E : Type 0} (wanted : RunKey → T) (latest : Option (RunKey × Summary)) (run : RunKey × Summary) → latest ≡ Some run → (rows : T) → rows ≡ wanted run.0
    → (result : Result T E) → IfOk result (λ table. table ≡ rows) → IfOk result (λ table. IfSome latest (λ r. table ≡ wanted r.0))
of_run wanted latest run is rows are (Ok table) held = subst (λ o. IfSome o (λ r. table ≡ wanted r.0)) (sym is) (held ∙ are)
of_run wanted latest run is rows are (Err fault) held = tt

-- ---- the touched Settlement Periods of a date

-- a period that passes a test is among those that pass it, if it is among all
among_kept : (test : SettlementPeriod → Bool) (at : SettlementPeriod) → test at ≡ true → (periods : List SettlementPeriod) → is_among (filter test periods) at ≡ is_among periods at
among_kept test at passes [] = refl
among_kept test at passes (p ∷ periods) =
    elim (test p) as (λ b. test p ≡ b → is_among (cond b (p ∷ filter test periods) (filter test periods)) at ≡ (eq_by_cmp settlement_period_cmp p at || is_among periods at)) [
      | true ↦ λ here. ap (λ b. eq_by_cmp settlement_period_cmp p at || b) (among_kept test at passes periods)
      | false ↦ λ fails. among_kept test at passes periods ∙ ap (λ b. b || is_among periods at) (sym (apart fails))
    ] refl
  where
    apart : test p ≡ false → eq_by_cmp settlement_period_cmp p at ≡ false
    apart fails = elim (eq_by_cmp settlement_period_cmp p at) as (λ b. eq_by_cmp settlement_period_cmp p at ≡ b → b ≡ false) [
      | true ↦ λ same. sym passes ∙ sym (ap test (exact_settlement_periods p at ((Equal-is (settlement_period_cmp p at)).0 same))) ∙ fails
      | false ↦ λ other. refl
    ] refl

is_date : (a date : ℕ) → a ≡ date → (a == date) ≡ true
is_date a date on = sym (unsigned_tied a date) ∙ ap (λ d. is_eq (nat_cmp d date)) on ∙ ap is_eq (tied_itself nat_cmp_total date)

-- ---- all of it

module _ (settings : Settings) (trees : Trees) (date : ℕ) (day : DayBeside) where
  -- what was read of the latest run is about the run that is the latest
  of_latest : {T : Type 0} (table : T) (rows : RunKey → T) → day.latest ≡ latest_on (content_of settings trees) date → IfSome day.latest (λ run. table ≡ rows run.0)
      → (e : RunKey × Summary) → latest_on (content_of settings trees) date ≡ Some e → table ≡ rows e.0
  of_latest table rows latest selected e is = subst (λ o. IfSome o (λ run. table ≡ rows run.0)) (latest ∙ is) selected

  pub selected_beside : day.latest ≡ last_of (filter (λ e. e.0.date == date) (rows_under_keys tables.runs trees))
      → IfSome day.latest (λ run. day.results ≡ filter (λ e. eq_by_cmp run_key_cmp e.0.run run.0) (map result_of (rows_under_keys tables.results trees)))
      → IfSome day.latest (λ run. day.credits ≡ filter (λ e. eq_by_cmp run_key_cmp e.0.run run.0) (rows_under_keys tables.credits trees))
      → day.positions ≡ filter (λ e. is_eq (nat_cmp e.0.at.date date)) (rows_under_keys tables.positions trees)
      → day.touched.items ≡ filter (λ at. at.date == date) (touched_periods trees)
      → IsBesideOf (content_of settings trees) (beside_in trees) date day
  selected_beside latest results credits positions touched = record {
    latest = latest;
    results = of_latest day.results (λ run. filter (λ e. eq_by_cmp run_key_cmp e.0.run run) (map result_of (rows_under_keys tables.results trees))) latest results;
    credits = of_latest day.credits (λ run. filter (λ e. eq_by_cmp run_key_cmp e.0.run run) (rows_under_keys tables.credits trees)) latest credits;
    touched = λ at on. ap (λ periods. is_among periods at) touched ∙ among_kept (λ p. p.date == date) at (is_date at.date date on) (touched_periods trees);
    positions = λ key on. ap (find position_key_cmp key) positions
        ∙ tested_kept position_key_cmp exact_position_keys (rows_under_keys tables.positions trees) (λ k. is_eq (nat_cmp k.at.date date)) key
        (ap (λ d. is_eq (nat_cmp d date)) on ∙ ap is_eq (tied_itself nat_cmp_total date));
  }

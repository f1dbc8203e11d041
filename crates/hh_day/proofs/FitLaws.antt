-- What is written for a run that the machine makes fits the types that keep it.
use Rattle.std.proofs.Common.{inl, inr, ◌≡◌, ℕ, ◌+◌, ◌≤◌, ◌<◌, List, [], ◌∷◌, ◌++◌, map, length, take, get_or, refl, sym, ap, subst, ◌∙◌, cond, Option, Some, None, arith}
use Rattle.std.specs.Prelude.{ℤ, pos, ◌+ℤ◌, ◌==◌, drop, sum_by, unsigned_abs}
use Rattle.std.specs.Cmp.{eq_by_cmp_equiv}
use Rattle.std.specs.List.{AllByRecursion}
use Rattle.std.proofs.lemmas.Int.{ints}
use Rattle.std.proofs.lemmas.List.Elements.{All-from_recursion}
use Rattle.std.proofs.lemmas.List.Sums.{sum_by-append, sum_by-take-drop}
use Rattle.hh_num.specs.Ranges.{IsBetween}
use Rattle.hh_num.specs.Totals.{total}
use Rattle.hh_time.specs.Days.{Midnights}
use Rattle.hh_names.specs.declared.account.Account.{Account}
use Rattle.hh_names.proofs.AccountLaws.{account_total}
use Rattle.hh_rows.specs.declared.settlement_period.SettlementPeriod.{SettlementPeriod}
use Rattle.hh_calc.specs.declared.result.AccountRow.{AccountRow}
use Rattle.hh_calc.specs.Ready.{HasNetVolumes, IsReady}
use Rattle.hh_calc.specs.Settled.{moved_by_row, paid_by}
use Rattle.hh_calc.specs.Terms.{Settled}
use Rattle.hh_runs.specs.declared.summary.Summary.{Summary}
use Rattle.hh_runs.specs.DayNets.{DayNets, day_cash, day_net_of}
use Rattle.hh_runs.specs.declared.run_key.RunKey.{RunKey}
use Rattle.hh_states.specs.declared.run_keys.ResultKey.{ResultKey}
use Rattle.hh_states.specs.Amounts.{IsSummaryWithin, SummariesWithin, TurnoversWithin, greatest_turnover, turnover_in}
use Rattle.hh_states.specs.Content.{result_entries, result_key, tables_of}
use Rattle.hh_states.specs.Nets.{NettedAreReady}
use Rattle.hh_states.specs.PeriodSettlement.{terms_at}
use Rattle.hh_calc.specs.Terms.{PeriodDataView}
use Rattle.hh_states.specs.Readiness.{PeriodsReady}
use Rattle.hh_states.specs.Reads.{results_in}
use Rattle.hh_states.specs.RunReads.{HoldsResults, rows_by_period}
use Rattle.hh_states.specs.Runs.{Run, latest_run, runs_of_date, settled_by, summary_after}
use Rattle.hh_states.specs.States.{State}
use Rattle.hh_states.specs.Steps.{IsReached, CanRun, after_run, by_run, new_run, new_summary, registered_at, timetable_at}
use Rattle.hh_state_laws.proofs.RunLaws.{with_former-append}
use Rattle.hh_state_laws.proofs.TurnoverLaws.{is_day_net, sum_by-made, total_by_sizes}
use Rattle.hh_store.specs.DayReads.{ArePeriodsOf, IsPeriodOf}
use Rattle.hh_store.specs.declared.day_data.PeriodState.{PeriodState}
use Rattle.hh_store.specs.declared.day_data.PeriodState.TheVariants.{Changed, Same}
use Rattle.hh_day.specs.NewRuns.{WritesTheRun}
use Rattle.hh_day.specs.RunLimits.{AreTurnoversSmall, FitsFields, MayBeSettled, RunsFit, TermsReady}
use Rattle.hh_day.specs.steps.RunParts.{AreNetsOf}
use Rattle.hh_day.proofs.NetLaws.{total_next}
use Rattle.hh_day.proofs.WriteLaws.{of_the_last, of_those_that_pass, settles_the_day}

-- rows of small turnovers
module _ {K : Type 0} (rows : List (K × AccountRow)) (small : AreTurnoversSmall rows) where
  -- what an account pays by the first of these rows is in the range of day nets
  first_fit : (a : Account) (n : ℕ) → IsBetween day_cash.least day_cash.most (total (λ e. moved_by_row a e.1) (take n rows))
  first_fit a n =
      let size : K × AccountRow → ℕ = λ e. unsigned_abs (moved_by_row a e.1) in
      let parts : sum_by size (take n rows) + sum_by size (drop n rows) ≡ sum_by size rows = sum_by-take-drop size rows n in
      let whole : sum_by size rows ≤ greatest_turnover = small a in
      is_day_net (total (λ e. moved_by_row a e.1) (take n rows)) (sum_by size (take n rows)) (total_by_sizes (λ (e : K × AccountRow). moved_by_row a e.1) (take n rows)) (omega arith)

  -- so is its net by the rows so far and the next row
  pub next_fits : (i : ℕ) (e : K × AccountRow) (nets : DayNets) → i < length rows → e ≡ get_or rows i e → AreNetsOf (take i rows) nets
      → IsBetween day_cash.least day_cash.most (day_net_of nets e.1.account +ℤ paid_by e.1)
  next_fits i e nets inside is so_far =
      let a : Account = e.1.account in
      subst (IsBetween day_cash.least day_cash.most)
      (total_next (λ (x : K × AccountRow). moved_by_row a x.1) rows i e inside is
      ∙ (λ j. sym (so_far a) j +ℤ cond ((eq_by_cmp_equiv account_total).refl a j) (paid_by e.1) (pos 0)))
      (first_fit a (i + 1))

-- an account's turnover by the rows of settled periods, which is the same under either kind of key
pub turnover_by_entries : (run : RunKey) (a : Account) (day : List (SettlementPeriod × Settled)) → sum_by (λ e. unsigned_abs (moved_by_row a e.1)) (result_entries run day) ≡ turnover_in a (rows_by_period day)
turnover_by_entries run a [] = refl
turnover_by_entries run a (q ∷ day) =
    let size : AccountRow → ℕ = λ r. unsigned_abs (moved_by_row a r) in
    sum_by-append (λ (e : ResultKey × AccountRow). size e.1) (map (λ r. (result_key run q.0 r, r)) q.1.accounts) (result_entries run day)
    ∙ (λ i. (sum_by-made (λ (e : ResultKey × AccountRow). size e.1) (λ r. (result_key run q.0 r, r)) q.1.accounts
    ∙ sym (sum_by-made (λ (e : ℕ × AccountRow). size e.1) (λ r. (q.0.period, r)) q.1.accounts)) i + turnover_by_entries run a day i)
    ∙ sym (sum_by-append (λ (e : ℕ × AccountRow). size e.1) (map (λ r. (q.0.period, r)) q.1.accounts) (rows_by_period day))

-- if all elements of a list have a property, so has the last
last_has : {X : Type 0} (P : X → Type 0) (xs : List X) (x : X) → AllByRecursion P (xs ++ x ∷ []) → P x
last_has P [] x all = all.0
last_has P (y ∷ xs) x all = last_has P xs x all.1

-- a summary within its limits fits its fields
fits_fields : (summary : Summary) → IsSummaryWithin summary → FitsFields summary
fits_fields summary within =
    let periods = within.periods in
    let accounts = within.accounts in
    let residual = within.residual in
    let postings = within.postings in
    record { periods = omega arith; accounts = omega arith; residual = (omega (arith, ints), omega (arith, ints)); postings = omega arith }

module _ (midnight : Midnights) (s : State) (moment : ℤ) (key : RunKey) (reached : IsReached midnight s) (can : CanRun midnight s moment key) where
  -- the state after the run is reached
  run_reached : IsReached midnight (after_run s key)
  run_reached = by_run s moment key reached can

  -- the turnovers in the new run are small
  new_small : TurnoversWithin → (a : Account) → turnover_in a (rows_by_period (settled_by (timetable_at midnight s) s.history (new_run s key))) ≤ greatest_turnover
  new_small turnovers a =
      last_has (λ (r : Run). turnover_in a (rows_by_period (settled_by (timetable_at midnight s) s.history r)) ≤ greatest_turnover) s.runs (new_run s key)
      (turnovers midnight (after_run s key) a run_reached)

  -- the turnover of an account in a run, if there is one, is small by the rows in the tables
  abbrev IsSmall : Account → Option Run → Type 0
  IsSmall a o = turnover_in a (elim o [ None ↦ [] | Some r ↦ results_in (tables_of midnight s) r.key ]) ≤ greatest_turnover

  -- so are the turnovers in the run of the date before it, if there is one
  former_small : TurnoversWithin → HoldsResults → (a : Account)
      → IsSmall a (latest_run key.date s.runs)
  former_small turnovers held a =
      of_the_last (IsSmall a) (omega arith) (runs_of_date key.date s.runs)
      (of_those_that_pass (λ r. IsSmall a (Some r)) (λ r. r.key.date == key.date) s.runs (each s.runs (turnovers midnight s a reached) (held midnight s reached)))
    where
      each : (runs : List Run) → AllByRecursion (λ r. turnover_in a (rows_by_period (settled_by (timetable_at midnight s) s.history r)) ≤ greatest_turnover) runs
          → AllByRecursion (λ r. results_in (tables_of midnight s) r.key ≡ rows_by_period (settled_by (timetable_at midnight s) s.history r)) runs → AllByRecursion (λ r. IsSmall a (Some r)) runs
      each [] small same = tt
      each (r ∷ runs) small same = (subst (λ rows. turnover_in a rows ≤ greatest_turnover) (sym same.0) small.0, each runs small.1 same.1)

  -- the summary of the new run is within its limits
  summary_small : SummariesWithin → IsSummaryWithin (new_summary midnight s key)
  summary_small summaries =
      last_has (λ (r : Option Run × Run). IsSummaryWithin (summary_after (timetable_at midnight s) s.history r.0 r.1)) _ (latest_run key.date s.runs, new_run s key)
      (subst (AllByRecursion (λ (r : Option Run × Run). IsSummaryWithin (summary_after (timetable_at midnight s) s.history r.0 r.1)))
      (with_former-append [] s.runs (new_run s key)) (summaries midnight (after_run s key) run_reached))

-- what is written for a new run fits
pub runs_fit : TurnoversWithin → SummariesWithin → HoldsResults → WritesTheRun → RunsFit
runs_fit turnovers summaries held writes_the_run midnight s moment key reached can = record {
  before = former_small midnight s moment key reached can turnovers held;
  now = λ a. subst (λ day. turnover_in a (rows_by_period day) ≤ greatest_turnover) (sym (settles_the_day midnight s key)) (new_small midnight s moment key reached can turnovers a);
  summary = λ writes written. subst FitsFields (sym (ap (λ w. w.summary) (writes_the_run midnight s moment key writes reached can written)))
      (fits_fields (new_summary midnight s key) (summary_small midnight s moment key reached can summaries));
}

-- what periods are settled from may be settled
pub terms_ready : PeriodsReady → NettedAreReady → TermsReady
terms_ready ready nets midnight s periods states reached are = All-from_recursion MayBeSettled states (each periods states are)
  where
    one : (at : SettlementPeriod) (state : PeriodState) → IsPeriodOf (registered_at midnight s) at state → MayBeSettled state
    one at (Changed p) (inl is) = subst IsReady (sym is) (ready midnight s at reached).ready
    one at (Changed p) (inr is) =
        subst IsReady (sym is.same) (nets (terms_at (registered_at midnight s) at) _ refl (ready midnight s at reached).ready
        (subst (λ (q : PeriodDataView). HasNetVolumes q.contracts) is.same is.sizes))
    one at (Same q) is = tt

    each : (ats : List SettlementPeriod) (ps : List PeriodState) → ArePeriodsOf (registered_at midnight s) ats ps → AllByRecursion MayBeSettled ps
    each [] [] all = tt
    each [] (p ∷ ps) all = absurd all
    each (at ∷ ats) [] all = tt
    each (at ∷ ats) (p ∷ ps) all = (one at p all.0, each ats ps all.1)

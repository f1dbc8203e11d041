-- Days that are accounted for still are after a run, after which no period of its date is touched.
use Rattle.std.proofs.Common.{◌≡◌, ℕ, List, [], ◌∷◌, ◌++◌, length, map, refl, sym, ap, subst, ◌∙◌, Bool, true, false, cond, Option, Some, None, Ordering, arith, eq-eqb, take_all}
use Rattle.std.specs.Prelude.{ℤ, ◌==◌, ◌&&◌, ◌||◌, filter, is_none, is_some, not, option_map, IsTrue}
use Rattle.std.specs.Cmp.{Equal-is, IsTotalOrder, unsigned_tied}
use Rattle.std.specs.List.{AllByRecursion}
use Rattle.std.specs.Ordering.{eq_by_cmp, nat_cmp}
use Rattle.std.specs.declared.cmp.Ordering.TheVariants.{Equal}
use Rattle.std.proofs.lemmas.Bool.{and_from, and_left, eqb-true, not-false, or_left, or_right}
use Rattle.std.proofs.lemmas.List.Elements.{filter-append}
use Rattle.std.proofs.lemmas.List.{map-append}
use Rattle.hh_tables.specs.Tables.{put_all}
use Rattle.hh_tables.proofs.TableLaws.{false_is_not_true}
use Rattle.hh_time.specs.Days.{Midnights, period_count}
use Rattle.hh_rows.specs.Keys.{settlement_period_cmp}
use Rattle.hh_rows.specs.declared.settlement_period.SettlementPeriod.{SettlementPeriod}
use Rattle.hh_rows.proofs.KeyLaws.{exact_settlement_periods}
use Rattle.hh_rules.specs.History.{Registered, registered_in}
use Rattle.hh_calc.specs.declared.result.AccountRow.{AccountRow}
use Rattle.hh_calc.specs.Limits.{is_within_limits}
use Rattle.hh_calc.specs.Terms.{Settled, settled_as}
use Rattle.hh_runs.specs.declared.run_key.RunKey.{RunKey}
use Rattle.hh_runs.specs.declared.run_kind.RunKind.{RunKind}
use Rattle.hh_runs.specs.declared.summary.Summary.{Summary}
use Rattle.hh_states.specs.declared.run_keys.CreditKey.{CreditKey}
use Rattle.hh_states.specs.declared.run_keys.ResultKey.{ResultKey}
use Rattle.hh_states.specs.Changes.{RunChangeView, effect_of_run, run_change}
use Rattle.hh_states.specs.Content.{Content, runs_with_former, tables_of}
use Rattle.hh_states.specs.DaySettlement.{from_one_to, periods_on}
use Rattle.hh_states.specs.PeriodSettlement.{price_of, settled, terms_at}
use Rattle.hh_states.specs.Runs.{Run, last_of, latest_run, periods_of, run_key_cmp, seen_by, settled_by, summary_after}
use Rattle.hh_states.specs.States.{State}
use Rattle.hh_states.specs.Steps.{CanRun, IsReached, after_run, by_run, new_run, new_summary, timetable_at}
use Rattle.hh_states.proofs.KeyLaws.{credit_key_total, exact_credit_keys, exact_result_keys, exact_run_keys, result_key_total, run_key_total}
use Rattle.hh_state_laws.proofs.ApartLaws.{all-before-map, all-map, all-weaken, first_part}
use Rattle.hh_state_laws.proofs.CompleteLaws.{IsComplete, none_passes, runs_complete}
use Rattle.hh_state_laws.proofs.CreditSumLaws.{turned_number}
use Rattle.hh_state_laws.proofs.RisingLaws.{all-both, filter_map-if}
use Rattle.hh_state_laws.proofs.RunLaws.{run_effect, with_former-append}
use Rattle.hh_state_laws.proofs.RunReadLaws.{holds_runs_of_dates}
use Rattle.hh_state_laws.proofs.RunRowLaws.{credits_own, results_own}
use Rattle.hh_states.specs.Beside.{credit_row, is_among, is_accounted_for, is_still, latest_on, period_of_run, terms_for, are_days_accounted_for}
use Rattle.hh_beside.proofs.DayAccountedFor.{IsRunAccountedFor, days_accounted_for, latest_accounted_for, latest_of_date}
use Rattle.hh_beside.proofs.DayLoads.{touched_or_still}
use Rattle.hh_beside.proofs.DayPeriods.{accounts_settled, holds_periods}
use Rattle.hh_beside.proofs.DayRows.{passing-put}
use Rattle.hh_beside.proofs.DayTests.{tells_periods}

-- ---- lists

-- the last element of a mapped list is the mapped last element
last_made : {X Y : Type 0} (f : X → Y) (xs : List X) → last_of (map f xs) ≡ option_map f (last_of xs)
last_made f [] = refl
last_made f (x ∷ []) = refl
last_made f (x ∷ y ∷ xs) = last_made f (y ∷ xs)

-- an element that is appended is the last
last_pushed : {X : Type 0} (xs : List X) (x : X) → last_of (xs ++ x ∷ []) ≡ Some x
last_pushed [] x = refl
last_pushed (y ∷ []) x = refl
last_pushed (y ∷ z ∷ xs) x = last_pushed (z ∷ xs) x

-- if all elements have a property, so has the one that was appended
holds_of_pushed : {X : Type 0} (P : X → Type 0) (xs : List X) (x : X) → AllByRecursion P (xs ++ x ∷ []) → P x
holds_of_pushed P [] x all = all.0
holds_of_pushed P (y ∷ xs) x all = holds_of_pushed P xs x all.1

-- putting rows whose keys don't pass a test changes nothing in the rows whose keys pass
passing-put_all : {K V : Type 0} {R : K → K → Ordering} → IsTotalOrder R → ((x y : K) → R x y ≡ Equal → x ≡ y) → (passes : K → Bool) (rows es : List (K × V))
    → AllByRecursion (λ e. passes e.0 ≡ false) rows → filter (λ e. passes e.0) (put_all R rows es) ≡ filter (λ e. passes e.0) es
passing-put_all o exact passes [] es off = refl
passing-put_all {R = R} o exact passes (e ∷ rows) es off =
    passing-put_all o exact passes rows _ off.1 ∙ passing-put o exact e.0 e.1 passes off.0 es

-- ---- dates

-- runs of different dates differ
other_run : (a b : RunKey) → (a.date == b.date) ≡ false → eq_by_cmp run_key_cmp a b ≡ false
other_run a b apart = first_part (nat_cmp a.date b.date) _ (unsigned_tied a.date b.date ∙ apart)

-- taking out the Settlement Periods of a date leaves those of another date
among_left : (date : ℕ) (at : SettlementPeriod) → (at.date == date) ≡ false → (ps : List SettlementPeriod) → is_among ps at ≡ true → is_among (filter (λ p. not (p.date == date)) ps) at ≡ true
among_left date at apart [] is = absurd (false_is_not_true is)
among_left date at apart (p ∷ ps) is =
    let left : List SettlementPeriod = filter (λ q. not (q.date == date)) ps in
    elim (eq_by_cmp settlement_period_cmp p at) as (λ b. eq_by_cmp settlement_period_cmp p at ≡ b → (b || is_among ps at) ≡ true → is_among (filter (λ q. not (q.date == date)) (p ∷ ps)) at ≡ true) [
      | true ↦ λ same _.
          let one : p ≡ at = exact_settlement_periods p at ((Equal-is (settlement_period_cmp p at)).0 same) in
          let other : not (p.date == date) ≡ true = ap (λ (q : SettlementPeriod). not (q.date == date)) one ∙ ap not apart in
          ap (λ b. is_among (cond b (p ∷ left) left) at) other ∙ or_left (eq_by_cmp settlement_period_cmp p at) (is_among left at) same
      | false ↦ λ other there.
          let later : is_among left at ≡ true = among_left date at apart ps there in
          elim (not (p.date == date)) as (λ b. is_among (cond b (p ∷ left) left) at ≡ true) [ true ↦ or_right (eq_by_cmp settlement_period_cmp p at) (is_among left at) later | false ↦ later ]
    ] refl is

-- ---- a period that was just settled

-- an option that is not None has a value
there_if : {X : Type 0} (o : Option X) → is_none o ≡ false → is_some o ≡ true
there_if None there = absurd (false_is_not_true (sym there))
there_if (Some x) there = refl

-- a Settlement Period that was settled, has a price and passes no limit is as it would be settled now
just_settled : (tables : Registered) (at : SettlementPeriod) (s : Settled) → s ≡ settled (terms_at tables at) → is_none (price_of tables at) ≡ false → not (is_within_limits (terms_at tables at)) ≡ false
    → is_still tables at s ≡ true
just_settled tables at s is priced within =
    let accounts : map (λ (r : AccountRow). r.account) s.accounts ≡ (terms_at tables at).accounts =
    ap (λ (t : Settled). map (λ (r : AccountRow). r.account) t.accounts) is ∙ accounts_settled (terms_at tables at) in
    let terms : terms_for (map (λ r. r.account) s.accounts) tables at ≡ terms_at tables at = λ i. record (terms_at tables at) { accounts = accounts i } in
    and_from _ _ (and_from _ _ (there_if (price_of tables at) priced) (ap is_within_limits terms ∙ not-false _ within))
    ((tells_periods (settled (terms_for (map (λ r. r.account) s.accounts) tables at)) s).1 (ap settled terms ∙ sym is))

-- ---- a run

module _ (midnight : Midnights) (s : State) (key : RunKey) where
  abbrev content : Content
  content = tables_of midnight s

  abbrev after : Content
  after = tables_of midnight (after_run s key)

  abbrev written : RunChangeView
  written = run_change midnight s key

  -- the Settlement Periods of other dates that were touched
  abbrev left : List SettlementPeriod → List SettlementPeriod
  left touched = filter (λ at. not (at.date == key.date)) touched

  module _ (effect : after ≡ effect_of_run written content) where
    -- the latest run of another date stays the same in the tables
    other_latest : (date : ℕ) → (key.date == date) ≡ false → latest_on after date ≡ latest_on content date
    other_latest date apart =
        ap (λ (c : Content). latest_on c date) effect
        ∙ ap last_of (passing-put run_key_total exact_run_keys key written.summary (λ (k : RunKey). k.date == date) apart content.runs)

    -- and so does each Settlement Period of a run of another date
    other_period : (run : RunKey) (period : ℕ) → (key.date == run.date) ≡ false → period_of_run after run period ≡ period_of_run content run period
    other_period run period apart =
        ap (λ (c : Content). period_of_run c run period) effect
        ∙ (λ i. settled_as
        (map (λ e. e.1) (passing-put_all result_key_total exact_result_keys (λ (k : ResultKey). eq_by_cmp run_key_cmp k.run run && (k.period == period)) written.results content.results results_off i))
        (map credit_row (passing-put_all credit_key_total exact_credit_keys (λ (k : CreditKey). eq_by_cmp run_key_cmp k.run run && (k.period == period)) written.credits content.credits credits_off i)))
      where
        off : (k : RunKey) (number : ℕ) → k ≡ key → (eq_by_cmp run_key_cmp k run && (number == period)) ≡ false
        off k number is = and_left (eq_by_cmp run_key_cmp k run) (number == period) (ap (λ (l : RunKey). eq_by_cmp run_key_cmp l run) is ∙ other_run key run apart)

        results_off : AllByRecursion (λ e. (eq_by_cmp run_key_cmp e.0.run run && (e.0.period == period)) ≡ false) written.results
        results_off =
            all-weaken (λ e. e.0.run ≡ key) (λ e. (eq_by_cmp run_key_cmp e.0.run run && (e.0.period == period)) ≡ false) (λ e. off e.0.run e.0.period)
            written.results (results_own key (settled_by (timetable_at midnight s) s.history (new_run s key)))

        credits_off : AllByRecursion (λ e. (eq_by_cmp run_key_cmp e.0.run run && (e.0.period == period)) ≡ false) written.credits
        credits_off =
            all-weaken (λ e. e.0.run ≡ key) (λ e. (eq_by_cmp run_key_cmp e.0.run run && (e.0.period == period)) ≡ false) (λ e. off e.0.run e.0.period)
            written.credits (credits_own key (settled_by (timetable_at midnight s) s.history (new_run s key)))

    -- so another date stays accounted for
    other_accounted_for : (touched : List SettlementPeriod) (date : ℕ) (e : RunKey × Summary) → (key.date == date) ≡ false → e.0.date ≡ date → IsRunAccountedFor content touched e date → IsRunAccountedFor after (left touched) e date
    other_accounted_for touched date e apart of_date accounted =
        all-map (λ at. is_accounted_for after (left touched) e.0 at ≡ true) (λ p. record { date = date; period = p }) (from_one_to e.1.periods)
        (all-weaken (λ p. is_accounted_for content touched e.0 (record { date = date; period = p }) ≡ true) (λ p. is_accounted_for after (left touched) e.0 (record { date = date; period = p }) ≡ true)
        (λ p.
        let at : SettlementPeriod = record { date = date; period = p } in
        touched_or_still (is_among touched at) (is_among (left touched) at) (is_still content.registered at (period_of_run content e.0 p)) (is_still after.registered at (period_of_run after e.0 p))
        (among_left key.date at (turned_number date key.date ∙ apart) touched)
        (λ so. ap (is_still content.registered at) (other_period e.0 p (ap (λ d. key.date == d) of_date ∙ apart)) ∙ so))
        (from_one_to e.1.periods)
        (all-before-map (λ at. is_accounted_for content touched e.0 at ≡ true) (λ p. record { date = date; period = p }) (from_one_to e.1.periods) accounted))

  module _ (moment : ℤ) (reached : IsReached midnight s) (can : CanRun midnight s moment key) where
    abbrev run : Run
    run = new_run s key

    -- the kind and summary of a run, from its key and summary
    abbrev shown : RunKey × Summary → RunKind × Summary
    shown e = (e.0.kind, e.1)

    -- the latest run of the run's date in the tables has the run's kind and summary
    own_shown : option_map shown (latest_on after key.date) ≡ Some (shown (key, new_summary midnight s key))
    own_shown =
        let summarized : Option Run × Run → RunKind × Summary = λ r. (r.1.key.kind, summary_after (timetable_at midnight s) s.history r.0 r.1) in
        let of_date : Option Run × Run → Bool = λ r. r.1.key.date == key.date in
        let former : Option Run = latest_run key.date s.runs in
        let ones : filter of_date ((former, run) ∷ []) ≡ (former, run) ∷ [] = ap (λ b. cond b ((former, run) ∷ []) []) (eq-eqb key.date key.date refl) in
        sym (last_made shown (filter (λ e. e.0.date == key.date) after.runs))
        ∙ ap last_of (sym (filter_map-if (λ (e : RunKey × Summary). e.0.date == key.date) shown after.runs)
        ∙ holds_runs_of_dates midnight (after_run s key) key.date (by_run s moment key reached can)
        ∙ ap (λ pairs. map summarized (filter of_date pairs)) (with_former-append [] s.runs run)
        ∙ ap (map summarized) (filter-append of_date (runs_with_former s) ((former, run) ∷ []) ∙ ap (λ more. filter of_date (runs_with_former s) ++ more) ones)
        ∙ map-append summarized (filter of_date (runs_with_former s)) ((former, run) ∷ []))
        ∙ last_pushed (map summarized (filter of_date (runs_with_former s))) (summarized (former, run))

    -- each Settlement Period of the run is as it would be settled now
    own_still : AllByRecursion (λ at. is_still after.registered at (period_of_run after key at.period) ≡ true) (periods_on key.date (period_count midnight key.date))
    own_still =
        let saw : Registered = seen_by (timetable_at midnight s) s.history run in
        let periods : List SettlementPeriod = periods_of midnight run in
        let now : saw ≡ after.registered = ap (registered_in (timetable_at midnight s)) (take_all (length s.history) s.history (omega arith)) in
        let done = by_run s moment key reached can in
        let complete : IsComplete saw periods =
        holds_of_pushed (λ r. IsComplete (seen_by (timetable_at midnight s) s.history r) (periods_of midnight r)) s.runs run (runs_complete midnight (after_run s key) done) in
        let held : AllByRecursion (λ at. period_of_run after key at.period ≡ settled (terms_at saw at)) periods =
        holds_of_pushed (λ r. AllByRecursion (λ at. period_of_run after r.key at.period ≡ settled (terms_at (seen_by (timetable_at midnight s) s.history r) at)) (periods_of midnight r)) s.runs run
        (holds_periods midnight (after_run s key) done) in
        subst (λ tables. AllByRecursion (λ at. is_still tables at (period_of_run after key at.period) ≡ true) periods) now
        (all-weaken (λ at. (period_of_run after key at.period ≡ settled (terms_at saw at)) × ((is_none (price_of saw at) ≡ false) × (not (is_within_limits (terms_at saw at)) ≡ false)))
        (λ at. is_still saw at (period_of_run after key at.period) ≡ true)
        (λ at h. just_settled saw at (period_of_run after key at.period) h.0 h.1.0 h.1.1) periods
        (all-both (λ at. period_of_run after key at.period ≡ settled (terms_at saw at)) (λ at. (is_none (price_of saw at) ≡ false) × (not (is_within_limits (terms_at saw at)) ≡ false)) periods held
        (all-both (λ at. is_none (price_of saw at) ≡ false) (λ at. not (is_within_limits (terms_at saw at)) ≡ false) periods
        (none_passes (λ at. is_none (price_of saw at)) periods complete.prices)
        (none_passes (λ at. not (is_within_limits (terms_at saw at))) periods complete.limits))))

    -- so the run's date is accounted for
    own_accounted_for : (touched : List SettlementPeriod) (date : ℕ) (e : RunKey × Summary) → key.date ≡ date → latest_on after date ≡ Some e → IsRunAccountedFor after (left touched) e date
    own_accounted_for touched date e same latest =
        let one : shown e ≡ shown (key, new_summary midnight s key) =
        one_value (shown e) (shown (key, new_summary midnight s key)) (sym (ap (option_map shown) (ap (latest_on after) same ∙ latest)) ∙ own_shown) in
        let is_new : e ≡ (key, new_summary midnight s key) =
        λ i. (record { date = (latest_of_date after touched date e latest ∙ sym same) i; kind = (one i).0 }, (one i).1) in
        subst (λ d. IsRunAccountedFor after (left touched) e d) same
        (subst (λ x. IsRunAccountedFor after (left touched) x key.date) (sym is_new)
        (all-weaken (λ at. is_still after.registered at (period_of_run after key at.period) ≡ true) (λ at. is_accounted_for after (left touched) key at ≡ true)
        (λ at. or_right (is_among (left touched) at) (is_still after.registered at (period_of_run after key at.period)))
        (periods_on key.date (period_count midnight key.date)) own_still))
      where
        one_value : {X : Type 0} (x y : X) → Some x ≡ Some y → x ≡ y
        one_value x y is = cc

pub accounted_for_after_runs : (midnight : Midnights) (s : State) (moment : ℤ) (key : RunKey) (touched : List SettlementPeriod)
    → IsReached midnight s → CanRun midnight s moment key → IsTrue (are_days_accounted_for (tables_of midnight s) touched)
    → IsTrue (are_days_accounted_for (tables_of midnight (after_run s key)) (filter (λ at. not (at.date == key.date)) touched))
accounted_for_after_runs midnight s moment key touched reached can accounted =
    let effect = run_effect midnight s moment key can in
    days_accounted_for (after midnight s key) (left midnight s key touched) (λ date e latest.
    elim (key.date == date) as (λ b. (key.date == date) ≡ b → IsRunAccountedFor (after midnight s key) (left midnight s key touched) e date) [
      | true ↦ λ same. own_accounted_for midnight s key moment reached can touched date e (eqb-true key.date date same) latest
      | false ↦ λ apart.
          let was : latest_on (content midnight s key) date ≡ Some e = sym (other_latest midnight s key effect date apart) ∙ latest in
          other_accounted_for midnight s key effect touched date e apart (latest_of_date (content midnight s key) touched date e was) (latest_accounted_for (content midnight s key) touched accounted date e was)
    ] refl)

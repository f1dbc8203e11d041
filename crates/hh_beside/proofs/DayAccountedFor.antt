-- The properties of a Settlement Period that is accounted for, and how they depend on which periods were touched.
use Rattle.std.proofs.Common.{◌≡◌, ℕ, zero, suc, ◌≤◌, List, [], ◌∷◌, ◌++◌, map, refl, sym, ap, subst, ◌∙◌, Bool, true, false, Option, Some, None, arith}
use Rattle.std.specs.Prelude.{◌==◌, ◌≢◌, ◌||◌, filter, IsTrue}
use Rattle.std.specs.Cmp.{eq_by_cmp_equiv}
use Rattle.std.specs.List.{AllByRecursion, flat_map, list_all}
use Rattle.std.specs.Ordering.{eq_by_cmp}
use Rattle.std.proofs.lemmas.Bool.{and_from, and_parts, eqb-false, eqb-true, or_left, or_right}
use Rattle.hh_tables.proofs.TableLaws.{false_is_not_true}
use Rattle.hh_rows.specs.Keys.{settlement_period_cmp}
use Rattle.hh_rows.specs.declared.settlement_period.SettlementPeriod.{SettlementPeriod}
use Rattle.hh_rows.proofs.KeyLaws.{settlement_period_total}
use Rattle.hh_calc.specs.Limits.{is_within_limits}
use Rattle.hh_calc.specs.Terms.{Settled}
use Rattle.hh_runs.specs.declared.run_key.RunKey.{RunKey}
use Rattle.hh_runs.specs.declared.summary.Summary.{Summary}
use Rattle.hh_states.specs.Content.{Content}
use Rattle.hh_states.specs.DaySettlement.{from_one_to, periods_on}
use Rattle.hh_states.specs.PeriodSettlement.{settled, terms_at}
use Rattle.hh_state_laws.proofs.ApartLaws.{all-before-map, all-filter, all-weaken, holds_of_last}
use Rattle.hh_state_laws.proofs.RisingLaws.{filter-passes}
use Rattle.hh_states.specs.Beside.{are_days_accounted_for, is_among, is_day_accounted_for, is_accounted_for, is_still, latest_on, period_of_run, terms_for}
use Rattle.hh_beside.specs.DayLaws.{HaveTheSame, UntouchedIsSettled}
use Rattle.hh_beside.specs.Keeping.{periods_of_runs}
use Rattle.hh_beside.proofs.DayTests.{tells_periods}

module _ {X : Type 0} where
  module _ (test : X → Bool) where
    -- if all pass, each passes
    pub each_passes : (xs : List X) → list_all test xs ≡ true → AllByRecursion (λ x. test x ≡ true) xs
    each_passes [] all = tt
    each_passes (x ∷ xs) all = let parts = and_parts (test x) (list_all test xs) all in (parts.0, each_passes xs parts.1)

    -- and conversely
    pub all_pass : (xs : List X) → AllByRecursion (λ x. test x ≡ true) xs → list_all test xs ≡ true
    all_pass [] each = refl
    all_pass (x ∷ xs) each = and_from (test x) (list_all test xs) each.0 (all_pass xs each.1)

-- if each number up to a count has a property, so has a number from 1 to the count
pub numbered : (P : ℕ → Type 0) (count p : ℕ) → 1 ≤ p → p ≤ count → AllByRecursion P (from_one_to count) → P p
numbered P zero p least most all = absurd (omega arith)
numbered P (suc n) p least most all =
    let parts = split (from_one_to n) (suc n) all in
    elim (p == suc n) as (λ b. (p == suc n) ≡ b → P p) [
      | true ↦ λ is. subst P (sym (eqb-true p (suc n) is)) parts.1
      | false ↦ λ other. numbered P n p least (below other) parts.0
    ] refl
  where
    split : (xs : List ℕ) (y : ℕ) → AllByRecursion P (xs ++ y ∷ []) → AllByRecursion P xs × P y
    split [] y all = (tt, all.0)
    split (x ∷ xs) y all = let rest = split xs y all.1 in ((all.0, rest.0), rest.1)

    below : (p == suc n) ≡ false → p ≤ n
    below other = let apart : p ≢ suc n = eqb-false p (suc n) other in omega arith

-- ---- days that are accounted for

module _ (content : Content) (touched : List SettlementPeriod) where
  -- each Settlement Period of the run is accounted for
  abbrev pub IsRunAccountedFor : RunKey × Summary → ℕ → Type 0
  IsRunAccountedFor e date = AllByRecursion (λ at. is_accounted_for content touched e.0 at ≡ true) (periods_on date e.1.periods)

  -- this holds for the latest run of each date
  abbrev pub AreLatestAccountedFor : Type 0
  AreLatestAccountedFor = (date : ℕ) (e : RunKey × Summary) → latest_on content date ≡ Some e → IsRunAccountedFor e date

  -- the latest run of a date, if there is one, is accounted for
  abbrev accounted_for_if : ℕ → Option (RunKey × Summary) → Bool
  accounted_for_if date o = elim o [ None ↦ true | Some run ↦ list_all (is_accounted_for content touched run.0) (periods_on date run.1.periods) ]

  -- the latest run of a date is a run of that date
  pub latest_of_date : (date : ℕ) (e : RunKey × Summary) → latest_on content date ≡ Some e → e.0.date ≡ date
  latest_of_date date e is =
      eqb-true e.0.date date
      (holds_of_last (λ x. (x.0.date == date) ≡ true) (filter (λ x. x.0.date == date) content.runs) e (filter-passes (λ x. x.0.date == date) content.runs) is)

  -- if each run has a property, so has the latest run of a date
  pub holds_of_latest : (P : RunKey × Summary → Type 0) → AllByRecursion P content.runs → (date : ℕ) (e : RunKey × Summary) → latest_on content date ≡ Some e → P e
  holds_of_latest P all date e is =
      holds_of_last P (filter (λ x. x.0.date == date) content.runs) e (all-filter P (λ x. x.0.date == date) content.runs all) is

  pub latest_accounted_for : are_days_accounted_for content touched ≡ true → AreLatestAccountedFor
  latest_accounted_for accounted date e is =
      let own : is_day_accounted_for content touched e.0.date ≡ true =
      holds_of_latest (λ x. is_day_accounted_for content touched x.0.date ≡ true) (each_passes (λ x. is_day_accounted_for content touched x.0.date) content.runs accounted) date e is in
      let of_date : is_day_accounted_for content touched date ≡ true = subst (λ d. is_day_accounted_for content touched d ≡ true) (latest_of_date date e is) own in
      each_passes (is_accounted_for content touched e.0) (periods_on date e.1.periods) (sym (ap (accounted_for_if date) is) ∙ of_date)

  pub days_accounted_for : AreLatestAccountedFor → are_days_accounted_for content touched ≡ true
  days_accounted_for accounted = all_pass (λ e. is_day_accounted_for content touched e.0.date) content.runs (every content.runs)
    where
      one : (date : ℕ) → is_day_accounted_for content touched date ≡ true
      one date = elim (latest_on content date) as (λ o. latest_on content date ≡ o → accounted_for_if date o ≡ true) [
        | None ↦ λ is. refl
        | Some e ↦ λ is. all_pass (is_accounted_for content touched e.0) (periods_on date e.1.periods) (accounted date e is)
      ] refl

      every : (es : List (RunKey × Summary)) → AllByRecursion (λ e. is_day_accounted_for content touched e.0.date ≡ true) es
      every [] = tt
      every (e ∷ es) = (one e.0.date, every es)

-- ---- properties of a period that is accounted for

-- if one of two tests holds and the first doesn't, the second does
pub still : (touched is : Bool) → (touched || is) ≡ true → touched ≡ false → is ≡ true
still true is accounted untouched = absurd (false_is_not_true (sym untouched))
still false is accounted untouched = accounted

-- a Settlement Period of the latest run of its date that wasn't touched is as it would be settled now
pub untouched_is_still : (content : Content) (touched : List SettlementPeriod) (at : SettlementPeriod) (run : RunKey) (summary : Summary)
    → are_days_accounted_for content touched ≡ true → latest_on content at.date ≡ Some (run, summary) → 1 ≤ at.period → at.period ≤ summary.periods → is_among touched at ≡ false
    → is_still content.registered at (period_of_run content run at.period) ≡ true
untouched_is_still content touched at run summary accounted latest least most untouched =
    let numbers : ℕ → SettlementPeriod = λ p. record { date = at.date; period = p } in
    let own : is_accounted_for content touched run at ≡ true =
    numbered (λ p. is_accounted_for content touched run (numbers p) ≡ true) summary.periods at.period least most
    (all-before-map (λ q. is_accounted_for content touched run q ≡ true) numbers (from_one_to summary.periods) (latest_accounted_for content touched accounted at.date (run, summary) latest)) in
    still (is_among touched at) (is_still content.registered at (period_of_run content run at.period)) own untouched

pub untouched_is_settled : UntouchedIsSettled
untouched_is_settled content touched at run summary accounted latest least most untouched accounts =
    let s : Settled = period_of_run content run at.period in
    let parts = and_parts _ _ (untouched_is_still content touched at run summary accounted latest least most untouched) in
    let terms : terms_for (map (λ r. r.account) s.accounts) content.registered at ≡ terms_at content.registered at = λ i. record (terms_at content.registered at) { accounts = accounts i } in
    let more = and_parts _ _ parts.0 in
    (sym (sym (ap settled terms) ∙ (tells_periods _ s).0 parts.1), sym (ap is_within_limits terms) ∙ more.1)

-- ---- what was touched

pub accounted_for_by_the_same : (content : Content) (these those : List SettlementPeriod) → HaveTheSame these those
    → are_days_accounted_for content these ≡ are_days_accounted_for content those
accounted_for_by_the_same content these those same = λ i.
    list_all (λ e. elim (latest_on content e.0.date) [
      | None ↦ true
      | Some run ↦ list_all (λ at. same at i || is_still content.registered at (period_of_run content run.0 at.period)) (periods_on e.0.date run.1.periods)
    ]) content.runs

-- a period among the first of two lists is among both together
pub among_first : (these those : List SettlementPeriod) (at : SettlementPeriod) → is_among these at ≡ true → is_among (these ++ those) at ≡ true
among_first [] those at is = absurd (false_is_not_true is)
among_first (p ∷ these) those at is =
    elim (eq_by_cmp settlement_period_cmp p at) as (λ b. (b || is_among these at) ≡ true → (b || is_among (these ++ those) at) ≡ true) [
      | true ↦ λ there. refl
      | false ↦ λ there. among_first these those at there
    ] is

pub among_second : (these those : List SettlementPeriod) (at : SettlementPeriod) → is_among those at ≡ true → is_among (these ++ those) at ≡ true
among_second [] those at is = is
among_second (p ∷ these) those at is = or_right (eq_by_cmp settlement_period_cmp p at) (is_among (these ++ those) at) (among_second these those at is)

-- each period of a list is among the list
pub each_among : (ps : List SettlementPeriod) → AllByRecursion (λ at. is_among ps at ≡ true) ps
each_among [] = tt
each_among (p ∷ ps) = (
  or_left (eq_by_cmp settlement_period_cmp p p) (is_among ps p) ((eq_by_cmp_equiv settlement_period_total).refl p),
  all-weaken (λ at. is_among ps at ≡ true) (λ at. is_among (p ∷ ps) at ≡ true) (λ at. or_right (eq_by_cmp settlement_period_cmp p at) (is_among ps at)) ps (each_among ps),
)

-- each period of each block is among all blocks together
blocks_among : {X : Type 0} (block : X → List SettlementPeriod) (xs : List X) → AllByRecursion (λ x. AllByRecursion (λ at. is_among (flat_map block xs) at ≡ true) (block x)) xs
blocks_among block [] = tt
blocks_among block (x ∷ xs) = (
  all-weaken (λ at. is_among (block x) at ≡ true) (λ at. is_among (block x ++ flat_map block xs) at ≡ true) (among_first (block x) (flat_map block xs)) (block x) (each_among (block x)),
  all-weaken (λ y. AllByRecursion (λ at. is_among (flat_map block xs) at ≡ true) (block y)) (λ y. AllByRecursion (λ at. is_among (block x ++ flat_map block xs) at ≡ true) (block y))
      (λ y. all-weaken (λ at. is_among (flat_map block xs) at ≡ true) (λ at. is_among (block x ++ flat_map block xs) at ≡ true) (among_second (block x) (flat_map block xs)) (block y)) xs (blocks_among block xs),
)

pub accounted_for_where_all_touched : (content : Content)
    → IsTrue (are_days_accounted_for content (periods_of_runs content.runs))
accounted_for_where_all_touched content =
    let touched : List SettlementPeriod = periods_of_runs content.runs in
    days_accounted_for content touched (λ date e is.
    all-weaken (λ at. is_among touched at ≡ true) (λ at. is_accounted_for content touched e.0 at ≡ true)
    (λ at. or_left (is_among touched at) (is_still content.registered at (period_of_run content e.0 at.period))) (periods_on date e.1.periods)
    (subst (λ d. AllByRecursion (λ at. is_among touched at ≡ true) (periods_on d e.1.periods)) (latest_of_date content touched date e is)
    (holds_of_latest content touched (λ x. AllByRecursion (λ at. is_among touched at ≡ true) (periods_on x.0.date x.1.periods))
    (blocks_among (λ x. periods_on x.0.date x.1.periods) content.runs) date e is)))

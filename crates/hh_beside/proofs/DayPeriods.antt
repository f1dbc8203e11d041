-- The tables of a reached state have each Settlement Period of each run as the run settled it.
use Rattle.std.proofs.Common.{◌≡◌, ℕ, List, [], ◌∷◌, map, refl, sym, ap, subst, ◌∙◌, Bool, true, false, cond, Ordering, eq-eqb}
use Rattle.std.specs.Prelude.{ℤ, neg_ℤ, ◌==◌, ◌&&◌, filter, take}
use Rattle.std.specs.Cmp.{IsTotalOrder, eq_by_cmp_equiv, nat_cmp_total, tied_itself}
use Rattle.std.specs.List.{AllByRecursion, flat_map}
use Rattle.std.specs.Ordering.{eq_by_cmp, nat_cmp, ordering_then}
use Rattle.std.specs.declared.cmp.Ordering.TheVariants.{Equal}
use Rattle.hh_num.specs.Totals.{total}
use Rattle.hh_num.proofs.TotalLaws.{total-map}
use Rattle.hh_tables.specs.Tables.{in_key_order}
use Rattle.hh_tables.proofs.TableLaws.{is_sorted-in_key_order}
use Rattle.hh_time.specs.Days.{Midnights, period_count}
use Rattle.hh_rows.specs.declared.settlement_period.SettlementPeriod.{SettlementPeriod}
use Rattle.hh_rules.specs.History.{Registered}
use Rattle.hh_rules.specs.Lateness.{Timetable}
use Rattle.hh_calc.specs.declared.result.AccountRow.{AccountRow}
use Rattle.hh_calc.specs.declared.result.CreditRow.{CreditRow}
use Rattle.hh_calc.specs.declared.result.Figures.{Figures}
use Rattle.hh_calc.specs.Formulas.{all_figures, credits_of, figures, residual, residual_shares}
use Rattle.hh_calc.specs.Settled.{figures_of}
use Rattle.hh_calc.specs.Terms.{PeriodDataView, Settled, settled_period, settled_as}
use Rattle.hh_runs.specs.declared.run_key.RunKey.{RunKey}
use Rattle.hh_states.specs.declared.run_keys.CreditKey.{CreditKey}
use Rattle.hh_states.specs.declared.run_keys.ResultKey.{ResultKey}
use Rattle.hh_states.specs.Content.{all_credits, all_results, credit_key, credit_key_cmp, result_key, result_key_cmp, tables_of}
use Rattle.hh_states.specs.DaySettlement.{settled_at}
use Rattle.hh_states.specs.PeriodSettlement.{UnitAccount, keyed_credits, settled, terms_at, unit_account_cmp}
use Rattle.hh_states.specs.Runs.{Run, periods_of, run_key_cmp, seen_by, settled_by}
use Rattle.hh_states.specs.States.{State}
use Rattle.hh_states.specs.Steps.{IsReached, timetable_at}
use Rattle.hh_states.proofs.KeyLaws.{credit_key_total, exact_credit_keys, exact_result_keys, result_key_total, run_key_total, unit_account_total}
use Rattle.hh_state_laws.proofs.ApartLaws.{NoneAlike, all-before-map, all-map, all-weaken, distinct-map, distinct-weaken}
use Rattle.hh_state_laws.proofs.CreditSumLaws.{numbers_differ, turned_number}
use Rattle.hh_state_laws.proofs.PostingLaws.{have_one_run_key, runs_distinct}
use Rattle.hh_state_laws.proofs.ResultLaws.{period_rises}
use Rattle.hh_state_laws.proofs.RisingLaws.{Rises, all-both, is_not_below, map-map, own_block, read_as_they_came, rising_if_sorted, second_below}
use Rattle.hh_state_laws.proofs.RunRowLaws.{all_blocks, all_of}
use Rattle.hh_state_laws.proofs.SettledLaws.{a_share_each, figures_shown}
use Rattle.hh_states.specs.Beside.{credit_row, is_credit_of, is_result_of, period_of_run}

-- the elements that pass two tests are those of the first's that pass the second
passing_both : {X : Type 0} (a b : X → Bool) (xs : List X) → filter (λ x. a x && b x) xs ≡ filter b (filter a xs)
passing_both a b [] = refl
passing_both a b (x ∷ xs) =
    elim (a x) as (λ t. cond (t && b x) (x ∷ filter (λ y. a y && b y) xs) (filter (λ y. a y && b y) xs) ≡ filter b (cond t (x ∷ filter a xs) (filter a xs))) [
      | true ↦ ap (λ more. cond (b x) (x ∷ more) more) (passing_both a b xs)
      | false ↦ passing_both a b xs
    ]

-- mapping each element to itself leaves the list
map_itself : {X : Type 0} (xs : List X) → map (λ x. x) xs ≡ xs
map_itself [] = refl
map_itself (x ∷ xs) = ap (λ more. x ∷ more) (map_itself xs)

-- ---- entries whose keys have a run and a period

module _ {K V : Type 0} {R : K → K → Ordering} (o : IsTotalOrder R) (exact : (x y : K) → R x y ≡ Equal → x ≡ y) (run_of : K → RunKey) (number_of : K → ℕ)
    (block : RunKey → SettlementPeriod × Settled → List (K × V)) (own_run : (key : RunKey) (q : SettlementPeriod × Settled) → AllByRecursion (λ e. run_of e.0 ≡ key) (block key q))
    (own_period : (key : RunKey) (q : SettlementPeriod × Settled) → AllByRecursion (λ e. number_of e.0 ≡ q.0.period) (block key q)) where
  -- the key is of this run and period
  abbrev is_of : RunKey → ℕ → K → Bool
  is_of key number k = eq_by_cmp run_key_cmp (run_of k) key && (number_of k == number)

  module _ (day_of : Run → List (SettlementPeriod × Settled)) (runs : List Run) where
    -- the entries of all runs
    abbrev all_entries : List (K × V)
    all_entries = flat_map (λ r. flat_map (block r.key) (day_of r)) runs

    -- the entries under a run's key are those of the run
    each_run : NoneAlike have_one_run_key runs → AllByRecursion (λ r. filter (λ e. eq_by_cmp run_key_cmp (run_of e.0) r.key) all_entries ≡ flat_map (block r.key) (day_of r)) runs
    each_run apart =
        own_block (eq_by_cmp run_key_cmp) (eq_by_cmp_equiv run_key_total).refl (eq_by_cmp_equiv run_key_total).symm
        (λ (r : Run). r.key) (λ (e : K × V). run_of e.0) (λ r. flat_map (block r.key) (day_of r)) (λ r. all_blocks (λ e. run_of e.0 ≡ r.key) (block r.key) (own_run r.key) (day_of r)) runs apart

    -- so the entries of a Settlement Period of a run are read as they were written, if they rise
    abbrev IsRead : Run → SettlementPeriod × Settled → Type 0
    IsRead r q = Rises R (λ e. e.0) (block r.key q) → filter (λ e. is_of r.key q.0.period e.0) (in_key_order R all_entries) ≡ block r.key q

    each_period : (r : Run) → filter (λ e. eq_by_cmp run_key_cmp (run_of e.0) r.key) all_entries ≡ flat_map (block r.key) (day_of r)
        → NoneAlike (λ (q t : SettlementPeriod × Settled). q.0.period == t.0.period) (day_of r) → AllByRecursion (IsRead r) (day_of r)
    each_period r are numbered =
        all-weaken (λ q. filter (λ e. number_of e.0 == q.0.period) (flat_map (block r.key) (day_of r)) ≡ block r.key q) (IsRead r)
        (λ q is rising.
        let own : filter (λ e. is_of r.key q.0.period e.0) all_entries ≡ block r.key q =
        passing_both (λ (e : K × V). eq_by_cmp run_key_cmp (run_of e.0) r.key) (λ e. number_of e.0 == q.0.period) all_entries ∙ ap (filter (λ e. number_of e.0 == q.0.period)) are ∙ is in
        read_as_they_came o exact (is_of r.key q.0.period) all_entries (subst (Rises R (λ e. e.0)) (sym own) rising) ∙ own)
        (day_of r)
        (own_block ◌==◌ (λ m. eq-eqb m m refl) turned_number (λ (q : SettlementPeriod × Settled). q.0.period) (λ (e : K × V). number_of e.0) (block r.key) (own_period r.key) (day_of r) numbered)

-- ---- rows and credits of a settled period

-- the rows of a settled period under the keys of a run
abbrev result_block : RunKey → SettlementPeriod × Settled → List (ResultKey × AccountRow)
result_block key q = map (λ r. (result_key key q.0 r, r)) q.1.accounts

-- the credits of a settled period under the keys of a run
abbrev credit_block : RunKey → SettlementPeriod × Settled → List (CreditKey × ℤ)
credit_block key q = map (λ c. (credit_key key q.0 c, c.credited)) q.1.credits

-- the credit of a unit and an account
abbrev credit_under : UnitAccount × ℤ → CreditRow
credit_under e = record { unit = e.0.0; account = e.0.1; credited = e.1 }

-- the credits of a settled period rise under the keys of a run
credits_rise : (key : RunKey) (at : SettlementPeriod) (p : PeriodDataView) → Rises credit_key_cmp (λ e. e.0) (credit_block key (at, settled p))
credits_rise key at p =
    let es : List (UnitAccount × ℤ) = in_key_order unit_account_cmp (keyed_credits (credits_of p.units)) in
    distinct-map (λ (c d : CreditKey × ℤ). is_not_below credit_key_cmp c.0 d.0) (λ (c : CreditRow). (credit_key key at c, c.credited)) (map credit_under es)
    (distinct-map (λ (c d : CreditRow). is_not_below credit_key_cmp (credit_key key at c) (credit_key key at d)) credit_under es
    (distinct-weaken (λ (e f : UnitAccount × ℤ). is_not_below unit_account_cmp e.0 f.0) (λ e f. is_not_below credit_key_cmp (credit_key key at (credit_under e)) (credit_key key at (credit_under f)))
    (λ e f h. second_below (run_key_cmp key key) (ordering_then (nat_cmp at.period at.period) (unit_account_cmp e.0 f.0)) (tied_itself run_key_total key)
    (second_below (nat_cmp at.period at.period) (unit_account_cmp e.0 f.0) (tied_itself nat_cmp_total at.period) h))
    es (rising_if_sorted unit_account_cmp es (is_sorted-in_key_order unit_account_total (keyed_credits (credits_of p.units))))))

-- the rows are of the period's accounts: there is a row for each
pub accounts_settled : (p : PeriodDataView) → map (λ (r : AccountRow). r.account) (settled p).accounts ≡ p.accounts
accounts_settled p =
    sym (map-map (λ (f : Figures). f.account) figures_of (settled p).accounts)
    ∙ ap (map (λ (f : Figures). f.account)) (figures_shown (all_figures p) (residual_shares p) (a_share_each p))
    ∙ map-map (λ (f : Figures). f.account) (figures p) p.accounts
    ∙ map_itself p.accounts

-- and the residual is minus the sum of their charges
residual_settled : (p : PeriodDataView) → neg_ℤ (total (λ (r : AccountRow). r.charge) (settled p).accounts) ≡ residual p
residual_settled p =
    ap neg_ℤ (sym (total-map (λ (f : Figures). f.charge) figures_of (settled p).accounts)
    ∙ ap (total (λ (f : Figures). f.charge)) (figures_shown (all_figures p) (residual_shares p) (a_share_each p))
    ∙ total-map (λ (f : Figures). f.charge) (figures p) p.accounts)

-- a settled period is read from its rows and credits under the keys of a run
settled_again : (key : RunKey) (at : SettlementPeriod) (p : PeriodDataView)
    → settled_as (map (λ e. e.1) (result_block key (at, settled p))) (map credit_row (credit_block key (at, settled p))) ≡ settled p
settled_again key at p =
    let rows : map (λ e. e.1) (result_block key (at, settled p)) ≡ (settled p).accounts =
    map-map (λ (e : ResultKey × AccountRow). e.1) (λ r. (result_key key at r, r)) (settled p).accounts ∙ map_itself (settled p).accounts in
    let credits : map credit_row (credit_block key (at, settled p)) ≡ (settled p).credits =
    map-map credit_row (λ (c : CreditRow). (credit_key key at c, c.credited)) (settled p).credits ∙ map_itself (settled p).credits in
    (λ i. settled_as (rows i) (credits i)) ∙ ap (settled_period (settled p).accounts (settled p).credits) (residual_settled p)

-- ---- the Settlement Periods of runs

module _ (midnight : Midnights) (s : State) where
  abbrev timetable : Timetable
  timetable = timetable_at midnight s

  -- the Settlement Periods that a run settles, with their settlements
  abbrev day_of : Run → List (SettlementPeriod × Settled)
  day_of r = settled_by timetable s.history r

  -- no two of them have the same number
  numbers_apart : (r : Run) → NoneAlike (λ (q t : SettlementPeriod × Settled). q.0.period == t.0.period) (day_of r)
  numbers_apart r =
      distinct-map (λ (q t : SettlementPeriod × Settled). q.0.period == t.0.period) (settled_at (seen_by timetable s.history r)) (periods_of midnight r)
      (numbers_differ r.key.date (period_count midnight r.key.date))

  results_own_run : (key : RunKey) (q : SettlementPeriod × Settled) → AllByRecursion (λ e. e.0.run ≡ key) (result_block key q)
  results_own_run key q = all-map (λ (e : ResultKey × AccountRow). e.0.run ≡ key) (λ r. (result_key key q.0 r, r)) q.1.accounts (all_of (λ _. key ≡ key) (λ _. refl) q.1.accounts)

  results_own_period : (key : RunKey) (q : SettlementPeriod × Settled) → AllByRecursion (λ e. e.0.period ≡ q.0.period) (result_block key q)
  results_own_period key q =
      all-map (λ (e : ResultKey × AccountRow). e.0.period ≡ q.0.period) (λ r. (result_key key q.0 r, r)) q.1.accounts (all_of (λ _. q.0.period ≡ q.0.period) (λ _. refl) q.1.accounts)

  credits_own_run : (key : RunKey) (q : SettlementPeriod × Settled) → AllByRecursion (λ e. e.0.run ≡ key) (credit_block key q)
  credits_own_run key q = all-map (λ (e : CreditKey × ℤ). e.0.run ≡ key) (λ c. (credit_key key q.0 c, c.credited)) q.1.credits (all_of (λ _. key ≡ key) (λ _. refl) q.1.credits)

  credits_own_period : (key : RunKey) (q : SettlementPeriod × Settled) → AllByRecursion (λ e. e.0.period ≡ q.0.period) (credit_block key q)
  credits_own_period key q =
      all-map (λ (e : CreditKey × ℤ). e.0.period ≡ q.0.period) (λ c. (credit_key key q.0 c, c.credited)) q.1.credits (all_of (λ _. q.0.period ≡ q.0.period) (λ _. refl) q.1.credits)

  -- the entries that the tables have of a Settlement Period of a run: of results and of credits
  abbrev HasResults : Run → SettlementPeriod × Settled → Type 0
  HasResults r q = Rises result_key_cmp (λ e. e.0) (result_block r.key q) → filter (is_result_of r.key q.0.period) (tables_of midnight s).results ≡ result_block r.key q

  abbrev HasCredits : Run → SettlementPeriod × Settled → Type 0
  HasCredits r q = Rises credit_key_cmp (λ e. e.0) (credit_block r.key q) → filter (is_credit_of r.key q.0.period) (tables_of midnight s).credits ≡ credit_block r.key q

  -- the tables have a Settlement Period of a run as the run settled it
  abbrev IsHeld : Run → SettlementPeriod → Type 0
  IsHeld r at = period_of_run (tables_of midnight s) r.key at.period ≡ settled (terms_at (seen_by timetable s.history r) at)

  held : (r : Run) (at : SettlementPeriod) → HasResults r (settled_at (seen_by timetable s.history r) at) × HasCredits r (settled_at (seen_by timetable s.history r) at) → IsHeld r at
  held r at (results, credits) =
      let p : PeriodDataView = terms_at (seen_by timetable s.history r) at in
      let rows = results (period_rises r.key timetable (take r.row_count s.history) r.key.date (period_count midnight r.key.date) at) in
      let credited = credits (credits_rise r.key at p) in
      (λ i. settled_as (map (λ e. e.1) (rows i)) (map credit_row (credited i))) ∙ settled_again r.key at p

  of_run : (r : Run)
      → (filter (λ e. eq_by_cmp run_key_cmp e.0.run r.key) (all_results timetable s) ≡ flat_map (result_block r.key) (day_of r))
      × (filter (λ e. eq_by_cmp run_key_cmp e.0.run r.key) (all_credits timetable s) ≡ flat_map (credit_block r.key) (day_of r))
      → AllByRecursion (IsHeld r) (periods_of midnight r)
  of_run r (results, credits) =
      let saw : Registered = seen_by timetable s.history r in
      all-weaken (λ at. HasResults r (settled_at saw at) × HasCredits r (settled_at saw at)) (IsHeld r) (held r) (periods_of midnight r)
      (all-before-map (λ q. HasResults r q × HasCredits r q) (settled_at saw) (periods_of midnight r)
      (all-both (HasResults r) (HasCredits r) (day_of r)
      (each_period result_key_total exact_result_keys (λ k. k.run) (λ k. k.period) result_block results_own_run results_own_period day_of s.runs r results (numbers_apart r))
      (each_period credit_key_total exact_credit_keys (λ k. k.run) (λ k. k.period) credit_block credits_own_run credits_own_period day_of s.runs r credits (numbers_apart r))))

-- the tables of a reached state have each Settlement Period of each run as the run settled it
pub holds_periods : (midnight : Midnights) (s : State) → IsReached midnight s
    → AllByRecursion (λ r. AllByRecursion (λ at.
    period_of_run (tables_of midnight s) r.key at.period ≡ settled (terms_at (seen_by (timetable_at midnight s) s.history r) at))
    (periods_of midnight r)) s.runs
holds_periods midnight s reached =
    let apart : NoneAlike have_one_run_key s.runs = runs_distinct midnight s reached in
    all-weaken
    (λ r. (filter (λ e. eq_by_cmp run_key_cmp e.0.run r.key) (all_results (timetable_at midnight s) s) ≡ flat_map (result_block r.key) (day_of midnight s r))
    × (filter (λ e. eq_by_cmp run_key_cmp e.0.run r.key) (all_credits (timetable_at midnight s) s) ≡ flat_map (credit_block r.key) (day_of midnight s r)))
    (λ r. AllByRecursion (IsHeld midnight s r) (periods_of midnight r)) (of_run midnight s) s.runs
    (all-both (λ r. filter (λ e. eq_by_cmp run_key_cmp e.0.run r.key) (all_results (timetable_at midnight s) s) ≡ flat_map (result_block r.key) (day_of midnight s r))
    (λ r. filter (λ e. eq_by_cmp run_key_cmp e.0.run r.key) (all_credits (timetable_at midnight s) s) ≡ flat_map (credit_block r.key) (day_of midnight s r)) s.runs
    (each_run result_key_total exact_result_keys (λ k. k.run) (λ k. k.period) result_block (results_own_run midnight s) (results_own_period midnight s) (day_of midnight s) s.runs apart)
    (each_run credit_key_total exact_credit_keys (λ k. k.run) (λ k. k.period) credit_block (credits_own_run midnight s) (credits_own_period midnight s) (day_of midnight s) s.runs apart))

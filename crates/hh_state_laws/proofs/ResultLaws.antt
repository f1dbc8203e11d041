-- The rows of a run's accounts are read by Settlement Period, then by account. So its day nets can be computed from them.
use Rattle.std.proofs.Common.{◌≡◌, ℕ, zero, suc, ◌≤◌, List, [], ◌∷◌, ◌++◌, map, refl, sym, ap, subst, ◌∙◌, Bool, false, Some, arith}
use Rattle.std.specs.Prelude.{ℤ, filter, take}
use Rattle.std.specs.Cmp.{eq_by_cmp_equiv, nat_cmp_total}
use Rattle.std.specs.List.{AllByRecursion}
use Rattle.std.specs.Ordering.{eq_by_cmp, nat_cmp, on, ordering_then, then_cmp}
use Rattle.std.specs.declared.cmp.Ordering.{Ordering}
use Rattle.std.specs.declared.cmp.Ordering.TheVariants.{Less}
use Rattle.std.proofs.lemmas.Cmp.{tied_itself}
use Rattle.std.proofs.lemmas.List.{map-append}
use Rattle.hh_num.specs.Totals.{total}
use Rattle.hh_num.proofs.TotalLaws.{total-map, total-same}
use Rattle.hh_tables.specs.Tables.{Table, in_key_order, latest}
use Rattle.hh_tables.proofs.TableLaws.{is_sorted-in_key_order}
use Rattle.hh_time.specs.Days.{Midnights, period_count}
use Rattle.hh_names.specs.declared.account.Account.{Account}
use Rattle.hh_names.specs.Accounts.{account_cmp, bytes_cmp, side_cmp}
use Rattle.hh_names.proofs.AccountLaws.{bytes_total}
use Rattle.hh_rows.specs.DateRanges.{holds}
use Rattle.hh_rows.specs.declared.rows.PartyRegistration.{PartyRegistration}
use Rattle.hh_rows.specs.declared.settlement_period.SettlementPeriod.{SettlementPeriod}
use Rattle.hh_rules.specs.Entries.{party_entry}
use Rattle.hh_rules.specs.History.{History, Registered, entries_of, registered_in}
use Rattle.hh_rules.specs.Lateness.{Timetable}
use Rattle.hh_calc.specs.declared.result.AccountRow.{AccountRow}
use Rattle.hh_calc.specs.Formulas.{figures, residual_shares}
use Rattle.hh_calc.specs.Settled.{moved_by_row}
use Rattle.hh_calc.specs.Terms.{PeriodDataView, Settled}
use Rattle.hh_calc.proofs.SpreadLaws.{total-flat_map}
use Rattle.hh_runs.specs.DayNets.{day_net_of}
use Rattle.hh_runs.specs.declared.run_key.RunKey.{RunKey}
use Rattle.hh_states.specs.declared.run_keys.ResultKey.{ResultKey}
use Rattle.hh_states.specs.Content.{all_postings, all_results, posting_key_cmp, result_entries, result_key, result_key_cmp, tables_of}
use Rattle.hh_states.specs.DaySettlement.{day_net, from_one_to, period_net, periods_on, settled_at, settled_day}
use Rattle.hh_names.specs.PartyAccounts.{both_accounts}
use Rattle.hh_states.specs.PeriodSettlement.{account_rows, accounts_on, settled, terms_at}
use Rattle.hh_states.specs.Reads.{results_in}
use Rattle.hh_states.specs.RunReads.{DayNetsFromResults, HoldsPostings, HoldsResults, paid_in, rows_by_period, rows_in_run}
use Rattle.hh_states.specs.Runs.{Run, nets_of, run_key_cmp, settled_by}
use Rattle.hh_states.specs.States.{State}
use Rattle.hh_states.specs.Steps.{timetable_at}
use Rattle.hh_states.proofs.KeyLaws.{exact_result_keys, result_key_total, run_key_total}
use Rattle.hh_states.proofs.ReadLaws.{postings_read}
use Rattle.hh_state_laws.proofs.ApartLaws.{NoneAlike, all-map, all-weaken, distinct-append, distinct-filter, distinct-map, distinct_blocks}
use Rattle.hh_state_laws.proofs.BalanceLaws.{day_nets_are_sums}
use Rattle.hh_state_laws.proofs.PostingLaws.{postings_total, runs_distinct}
use Rattle.hh_state_laws.proofs.RisingLaws.{Rises, filter_map-if, first_below, is_not_below, less_number, map-map, own_block, read_as_they_came, rising_if_sorted, second_below, two_parts_below}
use Rattle.hh_state_laws.proofs.RunRowLaws.{all_of, at_most, results_own, rows_all}

-- the numbers from 1 on rise
numbers_rise : (n : ℕ) → NoneAlike (is_not_below nat_cmp) (from_one_to n)
numbers_rise zero = tt
numbers_rise (suc n) =
    distinct-append (is_not_below nat_cmp) (from_one_to n) (suc n ∷ []) (numbers_rise n) (tt, tt)
    (all-weaken (λ m. m ≤ n) (λ m. AllByRecursion (λ x. is_not_below nat_cmp m x ≡ false) (suc n ∷ [])) (λ m most. (less_number m (suc n) (omega arith), tt)) (from_one_to n) (at_most n))

-- the accounts of a date are in their order
accounts_rise : (timetable : Timetable) (history : History) (date : ℕ) → NoneAlike (is_not_below account_cmp) (accounts_on (registered_in timetable history) date)
accounts_rise timetable history date =
    let parties : Table (List ℕ) PartyRegistration = (registered_in timetable history).parties in
    let test : List ℕ × PartyRegistration → Bool = λ e. holds e.1.range date in
    distinct_blocks (is_not_below bytes_cmp) (is_not_below account_cmp) (λ (e : List ℕ × PartyRegistration). e.0) (λ (a : Account). a.party)
    (λ a b. first_below (bytes_cmp a.party b.party) (side_cmp a.side b.side))
    (λ e. both_accounts e.0) (λ e. (refl, (refl, tt))) (filter test parties)
    (each_own (filter test parties))
    (distinct-filter (λ e f. is_not_below bytes_cmp e.0 f.0) test parties (rising_if_sorted bytes_cmp parties (is_sorted-in_key_order bytes_total (latest bytes_cmp (entries_of party_entry history)))))
  where
    -- Production comes before Consumption
    each_own : (es : List (List ℕ × PartyRegistration)) → AllByRecursion (λ e. NoneAlike (is_not_below account_cmp) (both_accounts e.0)) es
    each_own [] = tt
    each_own (e ∷ es) = (((second_below (bytes_cmp e.0 e.0) Less (tied_itself bytes_total e.0) refl, tt), (tt, tt)), each_own es)

-- rows of accounts are in the order of the accounts
rows_rise : (p : PeriodDataView) (accounts : List Account) (shares : List ℤ) → NoneAlike (is_not_below account_cmp) accounts → Rises account_cmp (λ (r : AccountRow). r.account) (account_rows (map (figures p) accounts) shares)
rows_rise p [] shares h = tt
rows_rise p (a ∷ accounts) [] h = tt
rows_rise p (a ∷ accounts) (share ∷ shares) h =
    (rows_all (figures p) (λ b. refl) (λ b. is_not_below account_cmp a b ≡ false) accounts shares h.0, rows_rise p accounts shares h.1)

-- Settlement Periods in runs, in the order of the runs, then of the periods
abbrev run_period_cmp : RunKey × ℕ → RunKey × ℕ → Ordering
run_period_cmp = then_cmp (on (λ m. m.0) run_key_cmp) (on (λ m. m.1) nat_cmp)

-- the rows of a settled day under the keys of a run
module _ (key : RunKey) (timetable : Timetable) (history : History) (date count : ℕ) where
  -- what was registered and in force after this history
  abbrev seen : Registered
  seen = registered_in timetable history

  -- the rows of a settled period under their keys
  abbrev rows_of : SettlementPeriod × Settled → List (ResultKey × AccountRow)
  rows_of q = map (λ r. (result_key key q.0 r, r)) q.1.accounts

  -- the rows of one period rise by account
  pub period_rises : (at : SettlementPeriod) → Rises result_key_cmp (λ e. e.0) (rows_of (settled_at seen at))
  period_rises at =
      let p : PeriodDataView = terms_at seen at in
      distinct-map (λ (a b : ResultKey × AccountRow). is_not_below result_key_cmp a.0 b.0) (λ r. (result_key key at r, r)) (settled p).accounts
      (others_below (settled p).accounts (rows_rise p p.accounts (residual_shares p) (accounts_rise timetable history at.date)))
    where
      -- keys of the same run and period are in the order of their accounts
      tied : (a b : Account) → is_not_below account_cmp a b ≡ false → is_not_below result_key_cmp (record { run = key; period = at.period; account = a }) (record { run = key; period = at.period; account = b }) ≡ false
      tied a b h =
          second_below (run_key_cmp key key) (ordering_then (nat_cmp at.period at.period) (account_cmp a b)) (tied_itself run_key_total key)
          (second_below (nat_cmp at.period at.period) (account_cmp a b) (tied_itself nat_cmp_total at.period) h)

      -- so rows that rise by account rise by key
      others_below : (rows : List AccountRow) → Rises account_cmp (λ (r : AccountRow). r.account) rows → Rises result_key_cmp (λ r. result_key key at r) rows
      others_below [] h = tt
      others_below (r ∷ rows) h =
          (all-weaken (λ s. is_not_below account_cmp r.account s.account ≡ false) (λ s. is_not_below result_key_cmp (result_key key at r) (result_key key at s) ≡ false) (λ s. tied r.account s.account) rows h.0, others_below rows h.1)

  -- the periods rise
  periods_rise : Rises run_period_cmp (λ (q : SettlementPeriod × Settled). (key, q.0.period)) (settled_day seen (periods_on date count))
  periods_rise =
      distinct-map (λ (q r : SettlementPeriod × Settled). is_not_below run_period_cmp (key, q.0.period) (key, r.0.period)) (settled_at seen) (periods_on date count)
      (distinct-map (λ (x y : SettlementPeriod). is_not_below run_period_cmp (key, x.period) (key, y.period)) (λ p. record { date = date; period = p }) (from_one_to count)
      (in_one_run (from_one_to count) (numbers_rise count)))
    where
      -- within one run the order is that of the period numbers
      in_one_run : (numbers : List ℕ) → NoneAlike (is_not_below nat_cmp) numbers → NoneAlike (λ x y. is_not_below run_period_cmp (key, x) (key, y)) numbers
      in_one_run [] h = tt
      in_one_run (n ∷ numbers) h =
          (all-weaken (λ m. is_not_below nat_cmp n m ≡ false) (λ m. is_not_below run_period_cmp (key, n) (key, m) ≡ false) (λ m. second_below (run_key_cmp key key) (nat_cmp n m) (tied_itself run_key_total key)) numbers h.0, in_one_run numbers h.1)

  -- so the rows of the whole day rise, by period, then by account
  results_rise : Rises result_key_cmp (λ e. e.0) (result_entries key (settled_day seen (periods_on date count)))
  results_rise =
      distinct_blocks (is_not_below run_period_cmp) (λ (a b : ResultKey × AccountRow). is_not_below result_key_cmp a.0 b.0)
      (λ (q : SettlementPeriod × Settled). (key, q.0.period)) (λ (e : ResultKey × AccountRow). (e.0.run, e.0.period))
      (λ a b. two_parts_below (run_key_cmp a.0.run b.0.run) (nat_cmp a.0.period b.0.period) (account_cmp a.0.account b.0.account))
      rows_of
      (λ q. all-map (λ (e : ResultKey × AccountRow). (e.0.run, e.0.period) ≡ (key, q.0.period)) (λ r. (result_key key q.0 r, r)) q.1.accounts (all_of (λ _. (key, q.0.period) ≡ (key, q.0.period)) (λ _. refl) q.1.accounts))
      (settled_day seen (periods_on date count))
      (all-map (λ q. Rises result_key_cmp (λ e. e.0) (rows_of q)) (settled_at seen) (periods_on date count) (all_of (λ at. Rises result_key_cmp (λ e. e.0) (rows_of (settled_at seen at))) period_rises (periods_on date count)))
      periods_rise

-- a row with its period
abbrev with_period : ResultKey × AccountRow → ℕ × AccountRow
with_period e = (e.0.period, e.1)

-- the rows of a run under its key, each with its period, are those of its periods
shown_by_period : (key : RunKey) (day : List (SettlementPeriod × Settled)) → map with_period (result_entries key day) ≡ rows_by_period day
shown_by_period key [] = refl
shown_by_period key (q ∷ day) =
    map-append with_period (map (λ r. (result_key key q.0 r, r)) q.1.accounts) (result_entries key day)
    ∙ (λ i. map-map with_period (λ r. (result_key key q.0 r, r)) q.1.accounts i ++ shown_by_period key day i)

module _ (midnight : Midnights) (s : State) where
  -- the timetable: local midnights, and when notifications close
  abbrev timetable : Timetable
  timetable = timetable_at midnight s

  -- the rows of a run under their keys
  abbrev run_entries : Run → List (ResultKey × AccountRow)
  run_entries r = result_entries r.key (settled_by timetable s.history r)

  -- the rows of all runs that are under a key
  abbrev entries_under : RunKey → List (ResultKey × AccountRow)
  entries_under key = filter (λ e. eq_by_cmp run_key_cmp e.0.run key) (all_results timetable s)

  -- rows under a run's key that rise are read in their own order
  rows_read : (key : RunKey) (es : List (ResultKey × AccountRow)) → entries_under key ≡ es → Rises result_key_cmp (λ e. e.0) es → results_in (tables_of midnight s) key ≡ map with_period es
  rows_read key es are rising =
      filter_map-if (λ e. eq_by_cmp run_key_cmp e.0.run key) with_period (in_key_order result_key_cmp (all_results timetable s))
      ∙ ap (map with_period)
      (read_as_they_came result_key_total exact_result_keys (λ k. eq_by_cmp run_key_cmp k.run key) (all_results timetable s) (subst (Rises result_key_cmp (λ e. e.0)) (sym are) rising)
      ∙ are)

  -- the rows under the key of a run are those of the run
  own_entries : NoneAlike (λ (x y : Run). eq_by_cmp run_key_cmp x.key y.key) s.runs → AllByRecursion (λ r. entries_under r.key ≡ run_entries r) s.runs
  own_entries =
      own_block (eq_by_cmp run_key_cmp) (eq_by_cmp_equiv run_key_total).refl (eq_by_cmp_equiv run_key_total).symm
      (λ (r : Run). r.key) (λ (e : ResultKey × AccountRow). e.0.run) run_entries (λ r. results_own r.key (settled_by timetable s.history r)) s.runs

-- the rows of each run in the tables are those of the periods that it settles
pub holds_results : HoldsResults
holds_results midnight s reached =
    let timetable : Timetable = timetable_at midnight s in
    all-weaken (λ r. entries_under midnight s r.key ≡ run_entries midnight s r)
    (λ r. results_in (tables_of midnight s) r.key ≡ rows_in_run midnight s r)
    (λ r are. rows_read midnight s r.key (run_entries midnight s r) are (results_rise r.key timetable (take r.row_count s.history) r.key.date (period_count midnight r.key.date))
    ∙ shown_by_period r.key (settled_by timetable s.history r))
    s.runs (own_entries midnight s (runs_distinct midnight s reached))

-- the postings to an account in the tables sum to what the latest runs of all dates move to it
pub holds_postings : HoldsPostings
holds_postings midnight s a reached =
    postings_read a (in_key_order posting_key_cmp (all_postings (timetable_at midnight s) s)) ∙ postings_total midnight s a reached

-- the sum of what an account pays by the rows of settled periods is what it pays in the periods
paid_by_period : (a : Account) (day : List (SettlementPeriod × Settled)) → paid_in a (rows_by_period day) ≡ day_net day a
paid_by_period a day =
    let amount : ℕ × AccountRow → ℤ = λ e. moved_by_row a e.1 in
    total-flat_map amount (λ (q : SettlementPeriod × Settled). map (λ (row : AccountRow). (q.0.period, row)) q.1.accounts) day
    ∙ total-same (λ (q : SettlementPeriod × Settled). total amount (map (λ (row : AccountRow). (q.0.period, row)) q.1.accounts)) (λ q. period_net a q.1) day
    (λ q. total-map amount (λ (row : AccountRow). (q.0.period, row)) q.1.accounts)

-- so the sum of what an account pays by the rows of a run in the tables is its day net
pub day_nets_from_results : DayNetsFromResults
day_nets_from_results midnight s a reached =
    let timetable : Timetable = timetable_at midnight s in
    all-weaken (λ r. results_in (tables_of midnight s) r.key ≡ rows_in_run midnight s r)
    (λ r. paid_in a (results_in (tables_of midnight s) r.key) ≡ day_net_of (nets_of timetable s.history (Some r)) a)
    (λ r are. ap (paid_in a) are ∙ paid_by_period a (settled_by timetable s.history r) ∙ sym (day_nets_are_sums timetable s.history r a))
    s.runs (holds_results midnight s reached)

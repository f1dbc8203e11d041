-- The keys under which a run writes: no key occurs twice, and each is the run's own.
use Rattle.std.proofs.Common.{◌≡◌, ℕ, zero, suc, ◌≤◌, List, [], ◌∷◌, ◌++◌, map, refl, sym, subst, Bool, false, arith}
use Rattle.std.specs.Prelude.{ℤ, pos, filter, not, ◌≢◌}
use Rattle.std.specs.List.{AllByRecursion, flat_map}
use Rattle.std.specs.Ordering.{eq_by_cmp, int_eq, is_eq, nat_cmp, ordering_then}
use Rattle.std.specs.declared.cmp.Ordering.TheVariants.{Less, Equal, Greater}
use Rattle.std.proofs.lemmas.Map.Lookups.{exact_unsigned}
use Rattle.hh_tables.specs.Tables.{Table, in_key_order, latest}
use Rattle.hh_tables.proofs.TableLaws.{is_sorted-in_key_order}
use Rattle.hh_names.specs.declared.account.Account.{Account}
use Rattle.hh_names.specs.Accounts.{account_cmp, bytes_cmp, is_same_account, side_cmp}
use Rattle.hh_names.proofs.AccountLaws.{account_total, bytes_total}
use Rattle.hh_rows.specs.DateRanges.{holds}
use Rattle.hh_rows.specs.declared.rows.PartyRegistration.{PartyRegistration}
use Rattle.hh_rows.specs.declared.settlement_period.SettlementPeriod.{SettlementPeriod}
use Rattle.hh_rules.specs.Entries.{party_entry}
use Rattle.hh_rules.specs.History.{History, Registered, entries_of, registered_in}
use Rattle.hh_rules.specs.Lateness.{Timetable}
use Rattle.hh_calc.specs.declared.result.AccountRow.{AccountRow}
use Rattle.hh_calc.specs.declared.result.CreditRow.{CreditRow}
use Rattle.hh_calc.specs.declared.result.Figures.{Figures}
use Rattle.hh_calc.specs.Formulas.{credits_of, figures, residual_shares}
use Rattle.hh_calc.specs.Terms.{PeriodDataView, Settled}
use Rattle.hh_runs.specs.DayNets.{DayNets, differences, net_change}
use Rattle.hh_runs.specs.declared.run_key.RunKey.{RunKey}
use Rattle.hh_states.specs.declared.run_keys.CreditKey.{CreditKey}
use Rattle.hh_states.specs.declared.run_keys.PostingKey.{PostingKey}
use Rattle.hh_states.specs.declared.run_keys.ResultKey.{ResultKey}
use Rattle.hh_states.specs.Content.{credit_entries, credit_key, credit_key_cmp, posting_entries, posting_key_cmp, result_entries, result_key, result_key_cmp}
use Rattle.hh_states.specs.DaySettlement.{from_one_to, periods_on, settled_at, settled_day}
use Rattle.hh_names.specs.PartyAccounts.{both_accounts}
use Rattle.hh_states.specs.PeriodSettlement.{UnitAccount, account_rows, accounts_on, in_credit_order, keyed_credits, settled, terms_at, unit_account_cmp}
use Rattle.hh_states.specs.Runs.{run_key_cmp}
use Rattle.hh_states.proofs.KeyLaws.{unit_account_total}
use Rattle.hh_state_laws.proofs.ApartLaws.{NoneAlike, all-append, all-map, all-weaken, distinct-append, distinct-filter, distinct-map, distinct-weaken, distinct_blocks, first_part, have_one_key, second_part, sorted_distinct}

-- whether two numbers are the same
abbrev pub is_same_number : ℕ → ℕ → Bool
is_same_number = eq_by_cmp nat_cmp

other_number : (a b : ℕ) → a ≢ b → is_same_number a b ≡ false
other_number a b apart = elim (nat_cmp a b) as (λ o. nat_cmp a b ≡ o → is_eq o ≡ false) [
  | Less ↦ λ is. refl
  | Equal ↦ λ is. absurd (apart (exact_unsigned a b is))
  | Greater ↦ λ is. refl
] refl

pub at_most : (n : ℕ) → AllByRecursion (λ m. m ≤ n) (from_one_to n)
at_most zero = tt
at_most (suc n) =
    all-append (λ m. m ≤ suc n) (from_one_to n) (suc n ∷ [])
    (all-weaken (λ m. m ≤ n) (λ m. m ≤ suc n) (λ m below. omega arith) (from_one_to n) (at_most n)) (omega arith, tt)

numbers_distinct : (n : ℕ) → NoneAlike is_same_number (from_one_to n)
numbers_distinct zero = tt
numbers_distinct (suc n) =
    distinct-append is_same_number (from_one_to n) (suc n ∷ []) (numbers_distinct n) (tt, tt)
    (all-weaken (λ m. m ≤ n) (λ m. AllByRecursion (λ x. is_same_number m x ≡ false) (suc n ∷ [])) (λ m below. (other_number m (suc n) (λ is. absurd (omega arith)), tt)) (from_one_to n) (at_most n))

-- no period of a date comes twice
pub periods_distinct : (date count : ℕ) → NoneAlike (λ x y. is_same_number x.period y.period) (periods_on date count)
periods_distinct date count = distinct-map (λ (x y : SettlementPeriod). is_same_number x.period y.period) (λ p. record { date = date; period = p }) (from_one_to count) (numbers_distinct count)

-- no account of a date comes twice
pub accounts_distinct : (timetable : Timetable) (history : History) (date : ℕ) → NoneAlike is_same_account (accounts_on (registered_in timetable history) date)
accounts_distinct timetable history date =
    let parties : Table (List ℕ) PartyRegistration = (registered_in timetable history).parties in
    let test : List ℕ × PartyRegistration → Bool = λ e. holds e.1.range date in
    distinct_blocks (eq_by_cmp bytes_cmp) is_same_account (λ (e : List ℕ × PartyRegistration). e.0) (λ (a : Account). a.party)
    (λ a b. first_part (bytes_cmp a.party b.party) (side_cmp a.side b.side))
    (λ e. both_accounts e.0) (λ e. (refl, (refl, tt))) (filter test parties)
    (each_own (filter test parties))
    (distinct-filter (have_one_key bytes_cmp) test parties (sorted_distinct bytes_cmp parties (is_sorted-in_key_order bytes_total (latest bytes_cmp (entries_of party_entry history)))))
  where
    each_own : (es : List (List ℕ × PartyRegistration)) → AllByRecursion (λ e. NoneAlike is_same_account (both_accounts e.0)) es
    each_own [] = tt
    each_own (e ∷ es) = (((second_part (bytes_cmp e.0 e.0) Less refl, tt), (tt, tt)), each_own es)

module _ (figures_at : Account → Figures) (same : (a : Account) → (figures_at a).account ≡ a) where
  -- if accounts have a property, so have the accounts of their rows
  pub rows_all : (P : Account → Type 0) (accounts : List Account) (shares : List ℤ) → AllByRecursion P accounts → AllByRecursion (λ r. P r.account) (account_rows (map figures_at accounts) shares)
  rows_all P [] shares h = tt
  rows_all P (a ∷ accounts) [] h = tt
  rows_all P (a ∷ accounts) (share ∷ shares) h = (subst P (sym (same a)) h.0, rows_all P accounts shares h.1)

  -- the rows of different accounts have different accounts
  pub rows_distinct : (accounts : List Account) (shares : List ℤ) → NoneAlike is_same_account accounts → NoneAlike (λ r s. is_same_account r.account s.account) (account_rows (map figures_at accounts) shares)
  rows_distinct [] shares h = tt
  rows_distinct (a ∷ accounts) [] h = tt
  rows_distinct (a ∷ accounts) (share ∷ shares) h = (
    rows_all (λ b. is_same_account (figures_at a).account b ≡ false) accounts shares (subst (λ c. AllByRecursion (λ b. is_same_account c b ≡ false) accounts) (sym (same a)) h.0),
    rows_distinct accounts shares h.1,
  )

-- the rows of one period are of different accounts
results_in_period : (key : RunKey) (at : SettlementPeriod) (rows : List AccountRow) → NoneAlike (λ r s. is_same_account r.account s.account) rows
    → NoneAlike (have_one_key result_key_cmp) (map {B = ResultKey × AccountRow} (λ r. (result_key key at r, r)) rows)
results_in_period key at rows h =
    distinct-map (have_one_key result_key_cmp) (λ r. (result_key key at r, r)) rows
    (distinct-weaken (λ r s. is_same_account r.account s.account) (λ r s. eq_by_cmp result_key_cmp (result_key key at r) (result_key key at s))
    (λ r s apart. second_part (run_key_cmp key key) (ordering_then (nat_cmp at.period at.period) (account_cmp r.account s.account)) (second_part (nat_cmp at.period at.period) (account_cmp r.account s.account) apart)) rows h)

-- the credits of a settled period are from different units or to different accounts
credits_distinct : (credits : List CreditRow) → NoneAlike (λ c d. eq_by_cmp unit_account_cmp (c.unit, c.account) (d.unit, d.account)) (in_credit_order credits)
credits_distinct credits =
    distinct-map (λ (c d : CreditRow). eq_by_cmp unit_account_cmp (c.unit, c.account) (d.unit, d.account)) (λ (e : UnitAccount × ℤ). record { unit = e.0.0; account = e.0.1; credited = e.1 })
    (in_key_order unit_account_cmp (keyed_credits credits))
    (sorted_distinct unit_account_cmp (in_key_order unit_account_cmp (keyed_credits credits)) (is_sorted-in_key_order unit_account_total (keyed_credits credits)))

credits_in_period : (key : RunKey) (at : SettlementPeriod) (credits : List CreditRow) → NoneAlike (λ c d. eq_by_cmp unit_account_cmp (c.unit, c.account) (d.unit, d.account)) credits
    → NoneAlike (have_one_key credit_key_cmp) (map {B = CreditKey × ℤ} (λ c. (credit_key key at c, c.credited)) credits)
credits_in_period key at credits h =
    distinct-map (have_one_key credit_key_cmp) (λ c. (credit_key key at c, c.credited)) credits
    (distinct-weaken (λ c d. eq_by_cmp unit_account_cmp (c.unit, c.account) (d.unit, d.account)) (λ c d. eq_by_cmp credit_key_cmp (credit_key key at c) (credit_key key at d))
    (λ c d apart. second_part (run_key_cmp key key) (ordering_then (nat_cmp at.period at.period) (unit_account_cmp (c.unit, c.account) (d.unit, d.account))) (second_part (nat_cmp at.period at.period) (unit_account_cmp (c.unit, c.account) (d.unit, d.account)) apart)) credits h)

pub all_of : {X : Type 0} (P : X → Type 0) → ((x : X) → P x) → (xs : List X) → AllByRecursion P xs
all_of P each [] = tt
all_of P each (x ∷ xs) = (each x, all_of P each xs)

pub all_blocks : {X Y : Type 0} (P : Y → Type 0) (block : X → List Y) → ((x : X) → AllByRecursion P (block x)) → (xs : List X) → AllByRecursion P (flat_map block xs)
all_blocks P block each [] = tt
all_blocks P block each (x ∷ xs) = all-append P (block x) (flat_map block xs) (each x) (all_blocks P block each xs)

module _ (key : RunKey) where
  abbrev result_block : SettlementPeriod × Settled → List (ResultKey × AccountRow)
  result_block q = map (λ r. (result_key key q.0 r, r)) q.1.accounts

  abbrev credit_block : SettlementPeriod × Settled → List (CreditKey × ℤ)
  credit_block q = map (λ c. (credit_key key q.0 c, c.credited)) q.1.credits

  -- a run writes its results under its own key
  pub results_own : (day : List (SettlementPeriod × Settled)) → AllByRecursion (λ e. e.0.run ≡ key) (result_entries key day)
  results_own = all_blocks (λ e. e.0.run ≡ key) result_block (λ q. all-map (λ (e : ResultKey × AccountRow). e.0.run ≡ key) (λ r. (result_key key q.0 r, r)) q.1.accounts (all_of (λ _. key ≡ key) (λ _. refl) q.1.accounts))

  pub credits_own : (day : List (SettlementPeriod × Settled)) → AllByRecursion (λ e. e.0.run ≡ key) (credit_entries key day)
  credits_own = all_blocks (λ e. e.0.run ≡ key) credit_block (λ q. all-map (λ (e : CreditKey × ℤ). e.0.run ≡ key) (λ c. (credit_key key q.0 c, c.credited)) q.1.credits (all_of (λ _. key ≡ key) (λ _. refl) q.1.credits))

  pub postings_own : (nets : DayNets) → AllByRecursion (λ e. e.0.run ≡ key) (posting_entries key nets)
  postings_own nets = all-map (λ (e : PostingKey × ℤ). e.0.run ≡ key) (λ (e : Account × ℤ). (record { run = key; account = e.0 }, e.1)) nets (all_of (λ _. key ≡ key) (λ _. refl) nets)

  module _ (timetable : Timetable) (history : History) (date count : ℕ) where
    abbrev seen : Registered
    seen = registered_in timetable history

    days_distinct : NoneAlike (λ (q r : SettlementPeriod × Settled). is_same_number q.0.period r.0.period) (settled_day seen (periods_on date count))
    days_distinct = distinct-map (λ (q r : SettlementPeriod × Settled). is_same_number q.0.period r.0.period) (settled_at seen) (periods_on date count) (periods_distinct date count)

    result_blocks_distinct : (at : SettlementPeriod) → NoneAlike (have_one_key result_key_cmp) (result_block (settled_at seen at))
    result_blocks_distinct at =
        let p : PeriodDataView = terms_at seen at in
        results_in_period key at (settled p).accounts (rows_distinct (figures p) (λ a. refl) p.accounts (residual_shares p) (accounts_distinct timetable history at.date))

    -- no result of a run occurs twice
    pub results_distinct : NoneAlike (have_one_key result_key_cmp) (result_entries key (settled_day seen (periods_on date count)))
    results_distinct =
        distinct_blocks is_same_number (have_one_key result_key_cmp) (λ (q : SettlementPeriod × Settled). q.0.period) (λ (e : ResultKey × AccountRow). e.0.period)
        (λ a b apart. second_part (run_key_cmp a.0.run b.0.run) (ordering_then (nat_cmp a.0.period b.0.period) (account_cmp a.0.account b.0.account)) (first_part (nat_cmp a.0.period b.0.period) (account_cmp a.0.account b.0.account) apart))
        result_block
        (λ q. all-map (λ (e : ResultKey × AccountRow). e.0.period ≡ q.0.period) (λ r. (result_key key q.0 r, r)) q.1.accounts (all_of (λ _. q.0.period ≡ q.0.period) (λ _. refl) q.1.accounts))
        (settled_day seen (periods_on date count))
        (all-map (λ q. NoneAlike (have_one_key result_key_cmp) (result_block q)) (settled_at seen) (periods_on date count) (all_of (λ at. NoneAlike (have_one_key result_key_cmp) (result_block (settled_at seen at))) result_blocks_distinct (periods_on date count)))
        days_distinct

    credit_blocks_distinct : (at : SettlementPeriod) → NoneAlike (have_one_key credit_key_cmp) (credit_block (settled_at seen at))
    credit_blocks_distinct at =
        let p : PeriodDataView = terms_at seen at in
        credits_in_period key at (settled p).credits (credits_distinct (credits_of p.units))

    -- no credit of a run occurs twice
    pub run_credits_distinct : NoneAlike (have_one_key credit_key_cmp) (credit_entries key (settled_day seen (periods_on date count)))
    run_credits_distinct =
        distinct_blocks is_same_number (have_one_key credit_key_cmp) (λ (q : SettlementPeriod × Settled). q.0.period) (λ (e : CreditKey × ℤ). e.0.period)
        (λ a b apart. second_part (run_key_cmp a.0.run b.0.run) (ordering_then (nat_cmp a.0.period b.0.period) (unit_account_cmp (a.0.unit, a.0.account) (b.0.unit, b.0.account))) (first_part (nat_cmp a.0.period b.0.period) (unit_account_cmp (a.0.unit, a.0.account) (b.0.unit, b.0.account)) apart))
        credit_block
        (λ q. all-map (λ (e : CreditKey × ℤ). e.0.period ≡ q.0.period) (λ c. (credit_key key q.0 c, c.credited)) q.1.credits (all_of (λ _. q.0.period ≡ q.0.period) (λ _. refl) q.1.credits))
        (settled_day seen (periods_on date count))
        (all-map (λ q. NoneAlike (have_one_key credit_key_cmp) (credit_block q)) (settled_at seen) (periods_on date count) (all_of (λ at. NoneAlike (have_one_key credit_key_cmp) (credit_block (settled_at seen at))) credit_blocks_distinct (periods_on date count)))
        days_distinct

  -- no posting of a run occurs twice
  pub postings_distinct : (old new : DayNets) → NoneAlike (have_one_key posting_key_cmp) (posting_entries key (differences old new))
  postings_distinct old new =
      let changes : List (Account × ℤ) = map (λ e. (e.0, net_change old new e.0)) (new ++ old) in
      distinct-map (have_one_key posting_key_cmp) (λ (e : Account × ℤ). (record { run = key; account = e.0 }, e.1)) (differences old new)
      (distinct-weaken (have_one_key account_cmp) (λ (a b : Account × ℤ). eq_by_cmp posting_key_cmp (record { run = key; account = a.0 }) (record { run = key; account = b.0 }))
      (λ a b apart. second_part (run_key_cmp key key) (account_cmp a.0 b.0) apart) (differences old new)
      (distinct-filter (have_one_key account_cmp) (λ e. not (int_eq e.1 (pos 0))) (in_key_order account_cmp changes) (sorted_distinct account_cmp (in_key_order account_cmp changes) (is_sorted-in_key_order account_total changes))))

-- The postings of each run sum to zero, because charges and shares together do in each Settlement Period.
use Rattle.std.proofs.Common.{◌≡◌, ℕ, List, [], ◌∷◌, ◌++◌, length, map, refl, sym, ap, ◌∙◌, Bool, true, false, cond, Option, Some, None, Ordering, arith}
use Rattle.std.specs.Prelude.{ℤ, pos, neg_ℤ, ◌+ℤ◌, ◌-ℤ◌, is_some, take, unwrap_or}
use Rattle.std.specs.Cmp.{IsTotalOrder, eq_by_cmp_equiv}
use Rattle.std.specs.FinMap.{find}
use Rattle.std.specs.List.{AllByRecursion}
use Rattle.std.specs.Ordering.{eq_by_cmp}
use Rattle.std.proofs.Math.IntN.{+ℤ_idl, +ℤ_idr}
use Rattle.hh_num.specs.Totals.{total}
use Rattle.hh_num.proofs.TotalLaws.{total-map, total-neg, total-plus, total-same, total-swap, total-zero}
use Rattle.hh_tables.specs.Tables.{in_key_order}
use Rattle.hh_tables.proofs.RowLaws.{equal}
use Rattle.hh_tables.proofs.TableLaws.{find-in_key_order}
use Rattle.hh_time.specs.Days.{period_count}
use Rattle.hh_names.specs.declared.account.Account.{Account}
use Rattle.hh_names.specs.Accounts.{account_cmp, is_same_account}
use Rattle.hh_names.proofs.AccountLaws.{account_total, exact_accounts}
use Rattle.hh_rows.specs.declared.settlement_period.SettlementPeriod.{SettlementPeriod}
use Rattle.hh_rules.specs.History.{History, Registered}
use Rattle.hh_rules.specs.Lateness.{Timetable}
use Rattle.hh_calc.specs.declared.result.AccountRow.{AccountRow}
use Rattle.hh_calc.specs.Formulas.{figures, residual_shares}
use Rattle.hh_calc.specs.Settled.{paid_by}
use Rattle.hh_calc.specs.Terms.{PeriodDataView, Settled}
use Rattle.hh_calc.proofs.SpreadLaws.{total-IsPermutation, total-flat_map}
use Rattle.hh_runs.specs.DayNets.{DayNets, day_net_of, differences, is_difference, net_change}
use Rattle.hh_runs.specs.declared.run_key.RunKey.{RunKey}
use Rattle.hh_states.specs.declared.run_keys.PostingKey.{PostingKey}
use Rattle.hh_states.specs.Content.{all_postings, posting_entries, posting_key_cmp, runs_with_former}
use Rattle.hh_states.specs.DaySettlement.{day_net, from_one_to, period_net, settled_day}
use Rattle.hh_states.specs.PeriodSettlement.{account_rows, settled, terms_at}
use Rattle.hh_states.specs.Runs.{Run, accounts_of, nets_of, postings_after, run_key_cmp, seen_by, settled_by}
use Rattle.hh_states.specs.States.{State}
use Rattle.hh_states.specs.Steps.{timetable_at}
use Rattle.hh_states.specs.Sums.{DayNetsAreSums, RunPostingsSumToZero}
use Rattle.hh_states.proofs.KeyLaws.{posting_key_total}
use Rattle.hh_state_laws.proofs.AmountLaws.{in_key_order_moves, tied_absent, total_at}
use Rattle.hh_state_laws.proofs.ApartLaws.{NoneAlike, all-filter, all-weaken, distinct-map, have_one_key}
use Rattle.hh_state_laws.proofs.PostingLaws.{all_postings_distinct, changes, changes_distinct, day_net_of-differences, differences_distinct, found_change}
use Rattle.hh_state_laws.proofs.RunRowLaws.{accounts_distinct, rows_all, rows_distinct}
use Rattle.hh_state_laws.proofs.SettledLaws.{a_share_each, period_balances}

-- if a test holds for no element, the sum of what it counts is 0
pub none_counts : {X : Type 0} (test : X → Bool) (f : X → ℤ) (xs : List X) → AllByRecursion (λ x. test x ≡ false) xs → total (λ x. cond (test x) (f x) (pos 0)) xs ≡ pos 0
none_counts test f [] never = refl
none_counts test f (x ∷ xs) never = λ i. cond (never.0 i) (f x) (pos 0) +ℤ none_counts test f xs never.1 i

module _ {X : Type 0} (same : X → X → Bool) (itself : (x : X) → same x x ≡ true) (turned : (x y : X) → same x y ≡ same y x) (f : X → ℤ) where
  -- if no two elements are the same, each counts once
  each_counts_once : (xs : List X) → NoneAlike same xs → total (λ y. total (λ x. cond (same x y) (f x) (pos 0)) xs) xs ≡ total f xs
  each_counts_once [] distinct = refl
  each_counts_once (x ∷ xs) distinct =
      ap (λ z. (cond (same x x) (f x) (pos 0) +ℤ total (λ w. cond (same w x) (f w) (pos 0)) xs) +ℤ z)
      (total-plus (λ y. cond (same x y) (f x) (pos 0)) (λ y. total (λ w. cond (same w y) (f w) (pos 0)) xs) xs)
      ∙ (λ i. (cond (itself x i) (f x) (pos 0) +ℤ none_counts (λ w. same w x) f xs others i) +ℤ (none_counts (same x) (λ y. f x) xs distinct.0 i +ℤ each_counts_once xs distinct.1 i))
      ∙ (λ i. +ℤ_idr (f x) i +ℤ +ℤ_idl (total f xs) i)
    where
      others : AllByRecursion (λ w. same w x ≡ false) xs
      others = all-weaken (λ w. same x w ≡ false) (λ w. same w x ≡ false) (λ w apart. turned w x ∙ apart) xs distinct.0

-- the rows of accounts are of these accounts
accounts_shown : (p : PeriodDataView) (accounts : List Account) (shares : List ℤ) → length (map (figures p) accounts) ≡ length shares → map (λ r. r.account) (account_rows (map (figures p) accounts) shares) ≡ accounts
accounts_shown p [] shares same = refl
accounts_shown p (a ∷ accounts) [] same = absurd (omega arith)
accounts_shown p (a ∷ accounts) (x ∷ shares) same = ap (λ t. a ∷ t) (accounts_shown p accounts shares (omega arith))

-- the sum of what the accounts of a settled period pay is that of its rows
period_nets_sum : (p : PeriodDataView) → NoneAlike is_same_account p.accounts → total (λ a. period_net a (settled p)) p.accounts ≡ total paid_by (settled p).accounts
period_nets_sum p distinct =
    let rows : List AccountRow = (settled p).accounts in
    ap (total (λ a. period_net a (settled p))) (sym (accounts_shown p p.accounts (residual_shares p) (a_share_each p)))
    ∙ total-map (λ a. period_net a (settled p)) (λ (r : AccountRow). r.account) rows
    ∙ each_counts_once (λ (r s : AccountRow). is_same_account r.account s.account)
    (λ r. (eq_by_cmp_equiv account_total).refl r.account) (λ r s. (eq_by_cmp_equiv account_total).symm r.account s.account)
    paid_by rows
    (rows_distinct (figures p) (λ a. refl) p.accounts (residual_shares p) distinct)

module _ (timetable : Timetable) (history : History) where
  module _ (run : Run) where
    -- what was registered and in force when the run was ordered
    abbrev seen : Registered
    seen = seen_by timetable history run

    -- a Settlement Period of the run's date
    abbrev period_at : ℕ → SettlementPeriod
    period_at n = record { date = run.key.date; period = n }

    -- no account is settled twice
    settled_once : NoneAlike is_same_account (accounts_of timetable history run)
    settled_once = accounts_distinct timetable (take run.row_count history) run.key.date

    -- the sum of what all accounts pay over periods is 0
    periods_sum : (numbers : List ℕ) → total (λ q. total (λ a. period_net a q.1) (accounts_of timetable history run)) (settled_day seen (map period_at numbers)) ≡ pos 0
    periods_sum [] = refl
    periods_sum (n ∷ numbers) =
        λ i. (period_nets_sum (terms_at seen (period_at n)) settled_once ∙ period_balances (terms_at seen (period_at n))) i +ℤ periods_sum numbers i

    -- an account that a run does not settle pays nothing
    pays_nothing : (a : Account) → AllByRecursion (λ b. is_same_account b a ≡ false) (accounts_of timetable history run) → (numbers : List ℕ) → total (λ q. period_net a q.1) (settled_day seen (map period_at numbers)) ≡ pos 0
    pays_nothing a others [] = refl
    pays_nothing a others (n ∷ numbers) =
        let p : PeriodDataView = terms_at seen (period_at n) in
        λ i. none_counts (λ r. is_same_account r.account a) paid_by (settled p).accounts (rows_all (figures p) (λ b. refl) (λ b. is_same_account b a ≡ false) p.accounts (residual_shares p) others) i
        +ℤ pays_nothing a others numbers i

    -- what is found for an account is what it pays, if accounts that are not listed pay nothing
    net_found : (f : Account → ℤ) (a : Account) (accounts : List Account) → (AllByRecursion (λ b. is_same_account b a ≡ false) accounts → f a ≡ pos 0)
        → day_net_of (map (λ b. (b, f b)) accounts) a ≡ f a
    net_found f a [] nothing = sym (nothing tt)
    net_found f a (b ∷ accounts) nothing =
        elim (eq_by_cmp account_cmp a b) as (λ t. eq_by_cmp account_cmp a b ≡ t → unwrap_or (cond t (Some (f b)) (find account_cmp a (map (λ c. (c, f c)) accounts))) (pos 0) ≡ f a) [
          | true ↦ λ same. ap f (sym (exact_accounts a b (equal (account_cmp a b) same)))
          | false ↦ λ apart. net_found f a accounts (λ others. nothing ((eq_by_cmp_equiv account_total).symm b a ∙ apart, others))
        ] refl

    -- so the day net of each account is what it pays in all periods
    run_net : (a : Account) → day_net_of (nets_of timetable history (Some run)) a ≡ day_net (settled_by timetable history run) a
    run_net a =
        net_found (day_net (settled_by timetable history run)) a (accounts_of timetable history run)
        (λ others. pays_nothing a others (from_one_to (period_count timetable.midnight run.key.date)))

  -- no account has two day nets
  nets_distinct : (o : Option Run) → NoneAlike (have_one_key account_cmp) (nets_of timetable history o)
  nets_distinct None = tt
  nets_distinct (Some run) = distinct-map (have_one_key account_cmp) (λ a. (a, day_net (settled_by timetable history run) a)) (accounts_of timetable history run) (settled_once run)

  -- the day nets of a run sum to zero
  nets_sum : (o : Option Run) → total (λ e. e.1) (nets_of timetable history o) ≡ pos 0
  nets_sum None = refl
  nets_sum (Some run) =
      let day : List (SettlementPeriod × Settled) = settled_by timetable history run in
      let accounts : List Account = accounts_of timetable history run in
      total-map (λ (e : Account × ℤ). e.1) (λ a. (a, day_net day a)) accounts
      ∙ total-swap (λ a (q : SettlementPeriod × Settled). period_net a q.1) accounts day
      ∙ periods_sum run (from_one_to (period_count timetable.midnight run.key.date))

module _ {K : Type 0} {R : K → K → Ordering} (o : IsTotalOrder R) where
  -- an amount under one key counts once among entries that have the key
  counts_at : (q : K) (z : ℤ) (es : List (K × ℤ)) → NoneAlike (have_one_key R) es → total (λ e. cond (eq_by_cmp R q e.0) z (pos 0)) es ≡ cond (is_some (find R q es)) z (pos 0)
  counts_at q z [] distinct = refl
  counts_at q z (e ∷ es) distinct =
      ap (λ y. cond (eq_by_cmp R q e.0) z (pos 0) +ℤ y) (counts_at q z es distinct.1)
      ∙ elim (eq_by_cmp R q e.0) as (λ b. eq_by_cmp R q e.0 ≡ b → cond b z (pos 0) +ℤ cond (is_some (find R q es)) z (pos 0) ≡ cond (is_some (cond b (Some e.1) (find R q es))) z (pos 0)) [
        | true ↦ λ same. ap (λ x. z +ℤ cond (is_some x) z (pos 0)) (tied_absent o q e.0 es same distinct.0) ∙ +ℤ_idr z
        | false ↦ λ apart. +ℤ_idl (cond (is_some (find R q es)) z (pos 0))
      ] refl

  -- so do amounts whose keys are all found
  all_count : (es fs : List (K × ℤ)) → NoneAlike (have_one_key R) fs → AllByRecursion (λ e. is_some (find R e.0 fs) ≡ true) es
      → total (λ e. total (λ f. cond (eq_by_cmp R e.0 f.0) e.1 (pos 0)) fs) es ≡ total (λ e. e.1) es
  all_count [] fs distinct among = refl
  all_count (e ∷ es) fs distinct among =
      λ i. (counts_at e.0 e.1 fs distinct ∙ ap (λ b. cond b e.1 (pos 0)) among.0) i +ℤ all_count es fs distinct among.1 i

  -- the sum of amounts may be taken over any entries that have their keys
  taken_over : (es fs : List (K × ℤ)) → NoneAlike (have_one_key R) es → NoneAlike (have_one_key R) fs → AllByRecursion (λ e. is_some (find R e.0 fs) ≡ true) es
      → total (λ f. unwrap_or (find R f.0 es) (pos 0)) fs ≡ total (λ e. e.1) es
  taken_over es fs distinct other_distinct among =
      total-same (λ f. unwrap_or (find R f.0 es) (pos 0)) (λ f. total (λ e. cond (eq_by_cmp R e.0 f.0) e.1 (pos 0)) es) fs (λ f. sym (total_at o f.0 es distinct))
      ∙ total-swap (λ (f e : K × ℤ). cond (eq_by_cmp R e.0 f.0) e.1 (pos 0)) fs es
      ∙ all_count es fs other_distinct among

  -- a key that is found is still found with one more entry in front
  found-cons : (q : K) (e : K × ℤ) (es : List (K × ℤ)) → is_some (find R q es) ≡ true → is_some (find R q (e ∷ es)) ≡ true
  found-cons q e es there = elim (eq_by_cmp R q e.0) as (λ b. is_some (cond b (Some e.1) (find R q es)) ≡ true) [ true ↦ refl | false ↦ there ]

  -- each key of a list is found there
  keys_found : (es : List (K × ℤ)) → AllByRecursion (λ e. is_some (find R e.0 es) ≡ true) es
  keys_found [] = tt
  keys_found (e ∷ es) = (
    ap (λ b. is_some (cond b (Some e.1) (find R e.0 es))) ((eq_by_cmp_equiv o).refl e.0),
    all-weaken (λ f. is_some (find R f.0 es) ≡ true) (λ f. is_some (find R f.0 (e ∷ es)) ≡ true) (λ f. found-cons f.0 e es) es (keys_found es),
  )

-- if all elements of two lists have a property, so do all elements of each list
all-split : {X : Type 0} (P : X → Type 0) (xs ys : List X) → AllByRecursion P (xs ++ ys) → AllByRecursion P xs × AllByRecursion P ys
all-split P [] ys h = (tt, h)
all-split P (x ∷ xs) ys h = let rest = all-split P xs ys h.1 in ((h.0, rest.0), rest.1)

module _ (old new : DayNets) (old_distinct : NoneAlike (have_one_key account_cmp) old) (new_distinct : NoneAlike (have_one_key account_cmp) new) where
  -- the changes of all accounts of either day
  abbrev every : DayNets
  every = in_key_order account_cmp (changes old new)

  -- an account of either day has a change
  has_change : (a : Account) → is_some (find account_cmp a (new ++ old)) ≡ true → is_some (find account_cmp a every) ≡ true
  has_change a there =
      ap is_some (find-in_key_order account_total (changes old new) a ∙ found_change old new a (new ++ old))
      ∙ ap (λ b. is_some (cond b (Some (net_change old new a)) None)) there

  -- so all accounts of either day have one
  have_changes : AllByRecursion (λ e. is_some (find account_cmp e.0 every) ≡ true) (new ++ old)
  have_changes =
      all-weaken (λ e. is_some (find account_cmp e.0 (new ++ old)) ≡ true) (λ e. is_some (find account_cmp e.0 every) ≡ true) (λ e. has_change e.0)
      (new ++ old) (keys_found account_total (new ++ old))

  -- the sum of the differences is the sum of the new nets less that of the old
  differences_sum : total (λ e. e.1) (differences old new) ≡ total (λ e. e.1) new -ℤ total (λ e. e.1) old
  differences_sum =
      let found = all-split (λ e. is_some (find account_cmp e.0 every) ≡ true) new old have_changes in
      sym (taken_over account_total (differences old new) every (differences_distinct old new) (changes_distinct old new)
      (all-filter (λ e. is_some (find account_cmp e.0 every) ≡ true) is_difference every (keys_found account_total every)))
      ∙ total-same (λ e. day_net_of (differences old new) e.0) (λ e. day_net_of new e.0 -ℤ day_net_of old e.0) every (λ e. day_net_of-differences old new e.0)
      ∙ total-plus (λ e. day_net_of new e.0) (λ e. neg_ℤ (day_net_of old e.0)) every
      ∙ (λ i. taken_over account_total new every new_distinct (changes_distinct old new) found.0 i
      +ℤ (total-neg (λ e. day_net_of old e.0) every ∙ ap neg_ℤ (taken_over account_total old every old_distinct (changes_distinct old new) found.1)) i)

module _ (timetable : Timetable) (s : State) (key : RunKey) where
  -- a posting, if it is the run's, or 0
  abbrev amount : PostingKey × ℤ → ℤ
  amount e = cond (eq_by_cmp run_key_cmp e.0.run key) e.1 (pos 0)

  -- the sum of the run's postings is 0, and so is that of another run's, which don't count
  one_run_balances : (r : Option Run × Run) → total amount (posting_entries r.1.key (postings_after timetable s.history r.0 r.1)) ≡ pos 0
  one_run_balances r =
      let nets : DayNets = postings_after timetable s.history r.0 r.1 in
      total-map amount (λ (e : Account × ℤ). (record { run = r.1.key; account = e.0 }, e.1)) nets
      ∙ elim (eq_by_cmp run_key_cmp r.1.key key) as (λ b. total (λ (e : Account × ℤ). cond b e.1 (pos 0)) nets ≡ pos 0) [
        | true ↦ differences_sum (nets_of timetable s.history r.0) (nets_of timetable s.history (Some r.1)) (nets_distinct timetable s.history r.0) (nets_distinct timetable s.history (Some r.1))
            ∙ (λ i. nets_sum timetable s.history (Some r.1) i -ℤ nets_sum timetable s.history r.0 i)
        | false ↦ total-zero nets
      ]

  -- so is the sum over all runs
  all_runs_balance : (pairs : List (Option Run × Run)) → total (λ r. total amount (posting_entries r.1.key (postings_after timetable s.history r.0 r.1))) pairs ≡ pos 0
  all_runs_balance [] = refl
  all_runs_balance (r ∷ pairs) = λ i. one_run_balances r i +ℤ all_runs_balance pairs i

-- the postings of each run sum to zero
pub run_postings_sum_to_zero : RunPostingsSumToZero
run_postings_sum_to_zero midnight s key reached =
    let timetable : Timetable = timetable_at midnight s in
    total-IsPermutation (amount timetable s key) (all_postings timetable s) (in_key_order posting_key_cmp (all_postings timetable s))
    (in_key_order_moves posting_key_total (all_postings timetable s) (all_postings_distinct midnight s reached))
    ∙ total-flat_map (amount timetable s key) (λ (r : Option Run × Run). posting_entries r.1.key (postings_after timetable s.history r.0 r.1)) (runs_with_former s)
    ∙ all_runs_balance timetable s key (runs_with_former s)

-- the day net of an account in a run is the sum of what it pays in the run's periods
pub day_nets_are_sums : DayNetsAreSums
day_nets_are_sums = run_net

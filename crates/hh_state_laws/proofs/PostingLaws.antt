-- The sum of the postings of runs to an account is the sum of its day nets in the latest runs of all dates.
use Rattle.std.proofs.Common.{◌≡◌, ℕ, List, [], ◌∷◌, ◌++◌, refl, sym, ap, ◌∙◌, Bool, true, false, cond, Option, Some, None, arith, append_assoc, eq-eqb, ne_eqb}
use Rattle.std.specs.Prelude.{ℤ, pos, ◌+ℤ◌, ◌-ℤ◌, ◌==◌, is_some, map, not, unwrap_or}
use Rattle.std.specs.Cmp.{eq_by_cmp_equiv, signed_Decides}
use Rattle.std.specs.FinMap.{find}
use Rattle.std.specs.List.{AllByRecursion}
use Rattle.std.specs.Option.{option_or}
use Rattle.std.specs.Ordering.{eq_by_cmp, int_eq}
use Rattle.std.proofs.Math.IntN.{+ℤ_idl, +ℤ_idr, +ℤ_invr}
use Rattle.std.proofs.lemmas.Bool.{eqb-false, eqb-true}
use Rattle.std.proofs.lemmas.Int.{ints}
use Rattle.std.proofs.lemmas.List.{append-nil}
use Rattle.hh_num.specs.Totals.{total}
use Rattle.hh_num.proofs.TotalLaws.{total-map, total-same}
use Rattle.hh_tables.specs.Tables.{in_key_order}
use Rattle.hh_tables.proofs.RowLaws.{equal}
use Rattle.hh_tables.proofs.TableLaws.{find-in_key_order, is_sorted-in_key_order}
use Rattle.hh_time.specs.Days.{Midnights}
use Rattle.hh_names.specs.declared.account.Account.{Account}
use Rattle.hh_names.specs.Accounts.{account_cmp}
use Rattle.hh_names.proofs.AccountLaws.{account_total, exact_accounts}
use Rattle.hh_rules.specs.Lateness.{Timetable}
use Rattle.hh_calc.specs.Formulas.{if_same_account}
use Rattle.hh_calc.proofs.SpreadLaws.{total-IsPermutation, total-flat_map}
use Rattle.hh_runs.specs.DayNets.{DayNets, day_net_of, differences, is_difference, net_change, with_change}
use Rattle.hh_states.specs.declared.run_keys.PostingKey.{PostingKey}
use Rattle.hh_states.specs.Content.{all_postings, posting_entries, posting_key_cmp, runs_with_former}
use Rattle.hh_states.specs.Runs.{Run, last_of, latest_run, nets_of, postings_after, run_key_cmp, runs_of_date, with_former}
use Rattle.hh_states.specs.States.{State}
use Rattle.hh_states.specs.Steps.{IsReached, at_first, by_load, by_run, new_run, timetable_at}
use Rattle.hh_states.specs.Sums.{PostingsTotal, latest_runs, moved_by_runs, posted, posted_to}
use Rattle.hh_states.proofs.KeyLaws.{posting_key_total, run_key_total}
use Rattle.hh_state_laws.proofs.AmountLaws.{absent, find-filter, if_passing, in_key_order_moves, total_at}
use Rattle.hh_state_laws.proofs.ApartLaws.{NoneAlike, all-weaken, distinct-append, distinct-filter, distinct_blocks, first_part, have_one_key, sorted_distinct}
use Rattle.hh_state_laws.proofs.RunLaws.{others}
use Rattle.hh_state_laws.proofs.RunRowLaws.{postings_distinct, postings_own}

-- an amount that is left out if it is 0 still counts
still_counts : (z : ℤ) → unwrap_or (if_passing (λ x. not (int_eq x (pos 0))) (Some z)) (pos 0) ≡ z
still_counts z = elim (int_eq z (pos 0)) as (λ b. int_eq z (pos 0) ≡ b → unwrap_or (cond (not b) (Some z) None) (pos 0) ≡ z) [
  | true ↦ λ is. sym ((signed_Decides z (pos 0)).0 is)
  | false ↦ λ is. refl
] refl

module _ (old new : DayNets) where
  -- the accounts of either day, each with its new net less its old
  abbrev pub changes : DayNets
  changes = map (with_change old new) (new ++ old)

  -- an account's change is found if the account is found
  pub found_change : (a : Account) (es : DayNets) → find account_cmp a (map (with_change old new) es) ≡ cond (is_some (find account_cmp a es)) (Some (net_change old new a)) None
  found_change a [] = refl
  found_change a (e ∷ es) =
      elim (eq_by_cmp account_cmp a e.0) as (λ b. eq_by_cmp account_cmp a e.0 ≡ b
      → cond b (Some (net_change old new e.0)) (find account_cmp a (map (with_change old new) es)) ≡ cond (is_some (cond b (Some e.1) (find account_cmp a es))) (Some (net_change old new a)) None) [
        | true ↦ λ same. ap (λ k. Some (net_change old new k)) (sym (exact_accounts a e.0 (equal (account_cmp a e.0) same)))
        | false ↦ λ apart. found_change a es
      ] refl

  -- no account has two changes
  pub changes_distinct : NoneAlike (have_one_key account_cmp) (in_key_order account_cmp changes)
  changes_distinct = sorted_distinct account_cmp (in_key_order account_cmp changes) (is_sorted-in_key_order account_total changes)

  -- nor two differences
  pub differences_distinct : NoneAlike (have_one_key account_cmp) (differences old new)
  differences_distinct = distinct-filter (have_one_key account_cmp) is_difference (in_key_order account_cmp changes) changes_distinct

  -- the difference for an account is its new net less its old
  pub day_net_of-differences : (a : Account) → day_net_of (differences old new) a ≡ net_change old new a
  day_net_of-differences a =
      ap (λ o. unwrap_or o (pos 0))
      (find-filter account_total (λ z. not (int_eq z (pos 0))) a (in_key_order account_cmp changes) changes_distinct
      ∙ ap (if_passing (λ z. not (int_eq z (pos 0)))) (find-in_key_order account_total changes a ∙ found_change a (new ++ old)))
      ∙ elim (find account_cmp a (new ++ old)) as (λ o. find account_cmp a (new ++ old) ≡ o
      → unwrap_or (if_passing (λ z. not (int_eq z (pos 0))) (cond (is_some o) (Some (net_change old new a)) None)) (pos 0) ≡ net_change old new a) [
        | None ↦ λ none.
            let neither = absent account_cmp a new old none in
            sym (λ i. unwrap_or (neither.0 i) (pos 0) -ℤ unwrap_or (neither.1 i) (pos 0))
        | Some z ↦ λ is. still_counts (net_change old new a)
      ] refl

-- the first value of three options, two of which have values
behind_two : {X : Type 0} (o : Option X) (x y : X) → option_or o (Some y) ≡ option_or (option_or o (Some y)) (Some x)
behind_two None x y = refl
behind_two (Some z) x y = refl

-- the last of a list with one more in front
last_of-cons : {X : Type 0} (x : X) (xs : List X) → last_of (x ∷ xs) ≡ option_or (last_of xs) (Some x)
last_of-cons x [] = refl
last_of-cons x (y ∷ xs) = last_of-cons y xs ∙ behind_two (last_of xs) x y ∙ ap (λ o. option_or o (Some x)) (sym (last_of-cons y xs))

-- the latest run of a date with one more run in front
pub latest_run-cons : (date : ℕ) (x : Run) (runs : List Run) → latest_run date (x ∷ runs) ≡ cond (x.key.date == date) (option_or (latest_run date runs) (Some x)) (latest_run date runs)
latest_run-cons date x runs =
    elim (x.key.date == date) as (λ b. last_of (cond b (x ∷ runs_of_date date runs) (runs_of_date date runs)) ≡ cond b (option_or (latest_run date runs) (Some x)) (latest_run date runs)) [
      | true ↦ last_of-cons x (runs_of_date date runs)
      | false ↦ refl
    ]

-- the latest run of a date with one more run
latest_run-append : (date : ℕ) (runs : List Run) (r : Run) → latest_run date (runs ++ r ∷ []) ≡ cond (r.key.date == date) (Some r) (latest_run date runs)
latest_run-append date [] r = latest_run-cons date r []
latest_run-append date (x ∷ runs) r =
    latest_run-cons date x (runs ++ r ∷ [])
    ∙ ap (λ o. cond (x.key.date == date) (option_or o (Some x)) o) (latest_run-append date runs r)
    ∙ later_first (x.key.date == date) (r.key.date == date) (latest_run date runs)
    ∙ ap (cond (r.key.date == date) (Some r)) (sym (latest_run-cons date x runs))
  where
    -- the order of the two tests makes no difference
    later_first : (b c : Bool) (o : Option Run) → cond b (option_or (cond c (Some r) o) (Some x)) (cond c (Some r) o) ≡ cond c (Some r) (cond b (option_or o (Some x)) o)
    later_first true true o = refl
    later_first false true o = refl
    later_first b false o = refl

-- a sum in which a run replaces the latest run of its date; the run before it was the only one of the date
behind_none : (a b c : ℤ) → pos 0 +ℤ ((b -ℤ pos 0) +ℤ c) ≡ ((a +ℤ b) -ℤ a) +ℤ c
behind_none a b c = omega (arith, ints)

-- the same with another run of the date between them
behind_one : (a b c : ℤ) → pos 0 +ℤ ((b -ℤ a) +ℤ c) ≡ ((pos 0 +ℤ b) -ℤ a) +ℤ c
behind_one a b c = omega (arith, ints)

-- the same if the run before it is of another date
other_date : (a b c d : ℤ) → a +ℤ ((b -ℤ c) +ℤ d) ≡ ((a +ℤ b) -ℤ c) +ℤ d
other_date a b c d = omega (arith, ints)

-- what is posted for a run is the change of the sum
one_step : (a b before after : ℤ) → (a -ℤ b) +ℤ (after -ℤ ((before -ℤ b) +ℤ a)) ≡ after -ℤ before
one_step a b before after = omega (arith, ints)

-- sums in which each run counts by an amount, and a missing run by 0
module _ (net : Option Run → ℤ) (nothing : net None ≡ pos 0) where
  -- the sum over the latest runs of all dates
  abbrev latest_total : List Run → ℤ
  latest_total runs = total (λ r. net (Some r)) (latest_runs runs)

  -- a run counts if no later run of its date follows
  latest_total-cons : (x : Run) (later : List Run) → latest_total (x ∷ later) ≡ cond (is_some (latest_run x.key.date later)) (pos 0) (net (Some x)) +ℤ latest_total later
  latest_total-cons x later =
      elim (is_some (latest_run x.key.date later)) as (λ b. total (λ r. net (Some r)) (cond b (latest_runs later) (x ∷ latest_runs later)) ≡ cond b (pos 0) (net (Some x)) +ℤ latest_total later) [
        | true ↦ sym (+ℤ_idl (latest_total later))
        | false ↦ refl
      ]

  -- of two runs of a date the later counts, whether or not one comes between them
  same_date : (o : Option Run) (x : Run) (rest more : ℤ)
      → pos 0 +ℤ ((rest -ℤ net o) +ℤ more) ≡ ((cond (is_some o) (pos 0) (net (Some x)) +ℤ rest) -ℤ net (option_or o (Some x))) +ℤ more
  same_date None x rest more = ap (λ z. pos 0 +ℤ ((rest -ℤ z) +ℤ more)) nothing ∙ behind_none (net (Some x)) rest more
  same_date (Some y) x rest more = behind_one (net (Some y)) rest more

  -- one more run replaces the latest of its date
  latest_total-append : (runs : List Run) (r : Run) → latest_total (runs ++ r ∷ []) ≡ (latest_total runs -ℤ net (latest_run r.key.date runs)) +ℤ net (Some r)
  latest_total-append [] r = +ℤ_idr (net (Some r)) ∙ sym (ap (λ z. (pos 0 -ℤ z) +ℤ net (Some r)) nothing ∙ +ℤ_idl (net (Some r)))
  latest_total-append (x ∷ runs) r =
      let rest : ℤ = latest_total runs in
      let former : Option Run = latest_run r.key.date runs in
      latest_total-cons x (runs ++ r ∷ [])
      ∙ (λ i. cond (is_some (latest_run-append x.key.date runs r i)) (pos 0) (net (Some x)) +ℤ latest_total-append runs r i)
      ∙ elim (x.key.date == r.key.date) as (λ b. (x.key.date == r.key.date) ≡ b
      → cond (is_some (cond (r.key.date == x.key.date) (Some r) (latest_run x.key.date runs))) (pos 0) (net (Some x)) +ℤ ((rest -ℤ net former) +ℤ net (Some r))
      ≡ ((cond (is_some (latest_run x.key.date runs)) (pos 0) (net (Some x)) +ℤ rest) -ℤ net (cond b (option_or former (Some x)) former)) +ℤ net (Some r)) [
        | true ↦ λ is.
            let same : x.key.date ≡ r.key.date = eqb-true x.key.date r.key.date is in
            let back : (r.key.date == x.key.date) ≡ true = eq-eqb r.key.date x.key.date (sym same) in
            (λ i. cond (is_some (cond (back i) (Some r) (latest_run x.key.date runs))) (pos 0) (net (Some x)) +ℤ ((rest -ℤ net former) +ℤ net (Some r)))
            ∙ same_date former x rest (net (Some r))
            ∙ sym (λ i. ((cond (is_some (latest_run (same i) runs)) (pos 0) (net (Some x)) +ℤ rest) -ℤ net (option_or former (Some x))) +ℤ net (Some r))
        | false ↦ λ is.
            let back : (r.key.date == x.key.date) ≡ false = ne_eqb r.key.date x.key.date (λ e. eqb-false x.key.date r.key.date is (sym e)) in
            (λ i. cond (is_some (cond (back i) (Some r) (latest_run x.key.date runs))) (pos 0) (net (Some x)) +ℤ ((rest -ℤ net former) +ℤ net (Some r)))
            ∙ other_date (cond (is_some (latest_run x.key.date runs)) (pos 0) (net (Some x))) rest (net former) (net (Some r))
      ] refl
      ∙ sym (λ i. (latest_total-cons x runs i -ℤ net (latest_run-cons r.key.date x runs i)) +ℤ net (Some r))

  -- the differences between each run and the run of its date before it sum to the sum over the latest runs
  total-with_former : (earlier runs : List Run) → total (λ p. net (Some p.1) -ℤ net p.0) (with_former earlier runs) ≡ latest_total (earlier ++ runs) -ℤ latest_total earlier
  total-with_former earlier [] = sym (ap (λ l. latest_total l -ℤ latest_total earlier) (append-nil earlier) ∙ +ℤ_invr (latest_total earlier))
  total-with_former earlier (r ∷ runs) =
      let former : ℤ = net (latest_run r.key.date earlier) in
      ap (λ z. (net (Some r) -ℤ former) +ℤ z) (total-with_former (earlier ++ r ∷ []) runs)
      ∙ (λ i. (net (Some r) -ℤ former) +ℤ (latest_total (append_assoc earlier (r ∷ []) runs i) -ℤ latest_total-append earlier r i))
      ∙ one_step (net (Some r)) former (latest_total earlier) (latest_total (earlier ++ r ∷ runs))

module _ (timetable : Timetable) (s : State) where
  -- what all runs post to an account is what the latest runs of all dates move to it
  pub posted_is_moved : (a : Account) → posted timetable s a ≡ moved_by_runs timetable s a
  posted_is_moved a =
      let net : Option Run → ℤ = λ o. day_net_of (nets_of timetable s.history o) a in
      total-same (λ r. day_net_of (postings_after timetable s.history r.0 r.1) a) (λ r. net (Some r.1) -ℤ net r.0) (runs_with_former s)
      (λ r. day_net_of-differences (nets_of timetable s.history r.0) (nets_of timetable s.history (Some r.1)) a)
      ∙ total-with_former net refl [] s.runs
      ∙ +ℤ_idr (latest_total net refl s.runs)

  -- the rows of an account in the postings of all runs sum to what the runs post to it
  all_rows_of : (a : Account) → posted_to a (all_postings timetable s) ≡ posted timetable s a
  all_rows_of a =
      let amount : PostingKey × ℤ → ℤ = λ e. if_same_account a e.0.account e.1 in
      let entry : Option Run × Run → Account × ℤ → PostingKey × ℤ = λ r e. (record { run = r.1.key; account = e.0 }, e.1) in
      let nets : Option Run × Run → DayNets = λ r. postings_after timetable s.history r.0 r.1 in
      total-flat_map amount (λ (r : Option Run × Run). posting_entries r.1.key (nets r)) (runs_with_former s)
      ∙ total-same (λ r. total amount (posting_entries r.1.key (nets r))) (λ r. day_net_of (nets r) a) (runs_with_former s)
      (λ r. total-map amount (entry r) (nets r) ∙ total_at account_total a (nets r) (differences_distinct (nets_of timetable s.history r.0) (nets_of timetable s.history (Some r.1))))

-- whether two runs are of the same date and kind
abbrev pub have_one_run_key : Run → Run → Bool
have_one_run_key x y = eq_by_cmp run_key_cmp x.key y.key

-- in each reached state no run occurs twice
pub runs_distinct : (midnight : Midnights) (s : State) → IsReached midnight s → NoneAlike have_one_run_key s.runs
runs_distinct midnight s (at_first settings fine) = tt
runs_distinct midnight s (by_load t load reached can) = runs_distinct midnight t reached
runs_distinct midnight s (by_run t moment key reached can) =
    distinct-append have_one_run_key t.runs (new_run t key ∷ []) (runs_distinct midnight t reached) (tt, tt)
    (all-weaken (λ r. eq_by_cmp run_key_cmp key r.key ≡ false) (λ r. AllByRecursion (λ y. have_one_run_key r y ≡ false) (new_run t key ∷ []))
    (λ r apart. ((eq_by_cmp_equiv run_key_total).symm r.key key ∙ apart, tt)) t.runs (others midnight t key can.0))

-- if each run has a property, so has each run paired with its former
pub all-with_former : (P : Run → Type 0) (earlier runs : List Run) → AllByRecursion P runs → AllByRecursion (λ r. P r.1) (with_former earlier runs)
all-with_former P earlier [] h = tt
all-with_former P earlier (r ∷ runs) h = (h.0, all-with_former P (earlier ++ r ∷ []) runs h.1)

-- so no two of these pairs have the same run key
distinct-with_former : (earlier runs : List Run) → NoneAlike have_one_run_key runs → NoneAlike (λ x y. have_one_run_key x.1 y.1) (with_former earlier runs)
distinct-with_former earlier [] h = tt
distinct-with_former earlier (r ∷ runs) h =
    (all-with_former (λ y. have_one_run_key r y ≡ false) (earlier ++ r ∷ []) runs h.0, distinct-with_former (earlier ++ r ∷ []) runs h.1)

-- so no two postings of all runs have the same key
pub all_postings_distinct : (midnight : Midnights) (s : State) → IsReached midnight s → NoneAlike (have_one_key posting_key_cmp) (all_postings (timetable_at midnight s) s)
all_postings_distinct midnight s reached =
    let timetable : Timetable = timetable_at midnight s in
    distinct_blocks (eq_by_cmp run_key_cmp) (have_one_key posting_key_cmp) (λ (r : Option Run × Run). r.1.key) (λ (e : PostingKey × ℤ). e.0.run)
    (λ a b. first_part (run_key_cmp a.0.run b.0.run) (account_cmp a.0.account b.0.account))
    (λ r. posting_entries r.1.key (postings_after timetable s.history r.0 r.1)) (λ r. postings_own r.1.key (postings_after timetable s.history r.0 r.1)) (runs_with_former s)
    (each timetable (runs_with_former s))
    (distinct-with_former [] s.runs (runs_distinct midnight s reached))
  where
    -- the same for each run by itself
    each : (timetable : Timetable) (pairs : List (Option Run × Run)) → AllByRecursion (λ r. NoneAlike (have_one_key posting_key_cmp) (posting_entries r.1.key (postings_after timetable s.history r.0 r.1))) pairs
    each timetable [] = tt
    each timetable (r ∷ pairs) = (postings_distinct r.1.key (nets_of timetable s.history r.0) (nets_of timetable s.history (Some r.1)), each timetable pairs)

-- the postings in the tables of a reached state sum to what the latest runs of all dates move
pub postings_total : PostingsTotal
postings_total midnight s a reached =
    let timetable : Timetable = timetable_at midnight s in
    total-IsPermutation (λ e. if_same_account a e.0.account e.1) (all_postings timetable s) (in_key_order posting_key_cmp (all_postings timetable s))
    (in_key_order_moves posting_key_total (all_postings timetable s) (all_postings_distinct midnight s reached))
    ∙ all_rows_of timetable s a
    ∙ posted_is_moved timetable s a

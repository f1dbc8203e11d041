-- The rows of a run are in the order of their Settlement Periods.
use Rattle.std.proofs.Common.{◌≡◌, ◌∙◌, ℕ, zero, suc, ◌<◌, ◌≤◌, List, [], ◌∷◌, map, filter, Bool, true, false, cond, Ordering, Less, Equal, Greater, is_eq, arith, refl, sym, ap, subst}
use Rattle.std.specs.Prelude.{filter_map}
use Rattle.std.specs.List.{AllByRecursion}
use Rattle.std.specs.List.Sorted.{IsNonDecreasingBy}
use Rattle.std.specs.Cmp.{ranks}
use Rattle.std.specs.Ordering.{MatchOrdering, nat_cmp, ordering_then}
use Rattle.std.proofs.lemmas.Cmp.{tied_itself}
use Rattle.std.proofs.lemmas.List.Elements.{All-from_recursion}
use Rattle.sqlite_keyed.proofs.ListLemmas.{ascending-filter, ascending-map}
use Rattle.sqlite_trees.specs.Tree.{IsAscending, Trees}
use Rattle.hh_names.specs.Accounts.{account_cmp}
use Rattle.hh_runs.specs.declared.run_key.RunKey.{RunKey}
use Rattle.hh_keyed_rows.specs.run_keys.ResultKey.{ResultKey}
use Rattle.hh_keyed_rows.specs.Content.{result_key_cmp}
use Rattle.hh_keyed_rows.specs.Runs.{run_key_cmp}
use Rattle.hh_keyed_rows.proofs.KeyLaws.{exact_run_keys, result_key_total, run_key_total}
use Rattle.hh_keyed_rows.specs.KeyedRows.{stored_entry}
use Rattle.hh_keyed_rows.specs.declared.amounts.AccountAmounts.{AccountAmounts}
use Rattle.hh_keyed_rows.proofs.PlaceLaws.{is_Equal}
use Rattle.hh_keyed_rows.proofs.SelectLaws.{order_rises}
use Rattle.hh_sqlrows.specs.Contents.{period_row, rows_of_run}
use Rattle.hh_sqlrows.specs.Forms.{rows_under_keys}
use Rattle.hh_sqlrows.specs.OfficeTables.{results}

-- numbers that rise along a list do not fall between two of its places
not_falling : {X : Type 0} (n : X → ℕ) (xs : List X) → IsAscending (λ a b. n a ≤ n b) xs → IsNonDecreasingBy n xs
not_falling n [] up i j d le inside = absurd (omega arith)
not_falling n (x ∷ xs) up zero zero d le inside = omega arith
not_falling n (x ∷ xs) up zero (suc j) d le inside = All-from_recursion (λ y. n x ≤ n y) xs up.0 j d (omega arith)
not_falling n (x ∷ xs) up (suc i) zero d le inside = absurd (omega arith)
not_falling n (x ∷ xs) up (suc i) (suc j) d le inside = not_falling n xs up.1 i j d (omega arith) (omega arith)

-- the filtered items of a list pass the test
all_pass : {X : Type 0} (test : X → Bool) (xs : List X) → AllByRecursion (λ x. test x ≡ true) (filter test xs)
all_pass test [] = tt
all_pass test (x ∷ xs) = go (test x) refl (all_pass test xs)
  where
    go : (b : Bool) → test x ≡ b → AllByRecursion (λ x. test x ≡ true) (filter test xs) → AllByRecursion (λ x. test x ≡ true) (cond b (x ∷ filter test xs) (filter test xs))
    go true is more = (is, more)
    go false is more = more

not_above : (m n : ℕ) (later o : Ordering) → nat_cmp m n ≡ o → ordering_then o later ≡ Less → m ≤ n
not_above m n later Less is h = let below : m < n = subst (λ o. MatchOrdering o (m < n) (m ≡ n) (n < m)) is (ranks m n) in omega arith
not_above m n later Equal is h = let same : m ≡ n = subst (λ o. MatchOrdering o (m < n) (m ≡ n) (n < m)) is (ranks m n) in omega arith
not_above m n later Greater is h = absurd (let e = h in cc)

module _ (run : RunKey) where
  abbrev of_run : ResultKey × AccountAmounts → Bool
  of_run e = is_eq (run_key_cmp e.0.run run)

  abbrev Up : ResultKey × AccountAmounts → ResultKey × AccountAmounts → Type 0
  Up a b = a.0.period ≤ b.0.period

  -- of two rows of the run, the later one is of no earlier period
  one_up : (a b : ResultKey × AccountAmounts) → of_run a ≡ true → of_run b ≡ true → result_key_cmp a.0 b.0 ≡ Less → Up a b
  one_up a b first second less =
      let of_a = exact_run_keys a.0.run run (is_Equal _ first) in
      let of_b = exact_run_keys b.0.run run (is_Equal _ second) in
      let tied : run_key_cmp a.0.run b.0.run ≡ Equal = (λ i. run_key_cmp (of_a i) (of_b i)) ∙ tied_itself run_key_total run in
      let later = account_cmp a.0.account b.0.account in
      let rest : ordering_then (nat_cmp a.0.period b.0.period) later ≡ Less = sym (ap (λ o. ordering_then o (ordering_then (nat_cmp a.0.period b.0.period) later)) tied) ∙ less in
      not_above a.0.period b.0.period later (nat_cmp a.0.period b.0.period) refl rest

  each_up : (a : ResultKey × AccountAmounts) (es : List (ResultKey × AccountAmounts)) → of_run a ≡ true → AllByRecursion (λ e. of_run e ≡ true) es → AllByRecursion (λ e. result_key_cmp a.0 e.0 ≡ Less) es → AllByRecursion (Up a) es
  each_up a [] first each less = tt
  each_up a (e ∷ es) first each less = (one_up a e first each.0 less.0, each_up a es first each.1 less.1)

  all_up : (es : List (ResultKey × AccountAmounts)) → AllByRecursion (λ e. of_run e ≡ true) es → IsAscending (λ a b. result_key_cmp a.0 b.0 ≡ Less) es → IsAscending Up es
  all_up [] each up = tt
  all_up (e ∷ es) each up = (each_up e es each.0 each.1 up.0, all_up es each.1 up.1)

  pub run_rises : (trees : Trees) → IsNonDecreasingBy (λ e. e.0) (map period_row (rows_of_run run trees))
  run_rises trees =
      let rows : List (ResultKey × AccountAmounts) = rows_under_keys results trees in
      let up = ascending-filter (λ a b. result_key_cmp a.0 b.0 ≡ Less) of_run rows (order_rises {V = AccountAmounts} result_key_cmp result_key_total (filter_map (stored_entry results.key results.value) (trees results.table.tree))) in
      not_falling (λ e. e.0) (map period_row (rows_of_run run trees))
      (ascending-map (λ a b. a.0 ≤ b.0) period_row (rows_of_run run trees) (all_up (rows_of_run run trees) (all_pass of_run rows) up))

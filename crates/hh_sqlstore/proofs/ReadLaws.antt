-- What is read from the rows that a statement selects is the same as what would be read from all rows.
use Rattle.std.proofs.Common.{◌≡◌, ◌∙◌, ℕ, List, [], ◌∷◌, Bool, true, false, cond, map, None, Option, Some, refl, sym, ap, arith}
use Rattle.std.specs.Prelude.{◌==◌, All, filter, filter_map}
use Rattle.std.specs.List.{AllByRecursion, cons_option}
use Rattle.std.specs.Ordering.{is_eq, nat_cmp}
use Rattle.std.proofs.lemmas.Bool.Decides.{nat_tests}
use Rattle.std.proofs.lemmas.List.Elements.{All-from_recursion, All-map}
use Rattle.sqlite_trees.specs.Tree.{Trees}
use Rattle.hh_runs.specs.declared.run_key.RunKey.{RunKey}
use Rattle.hh_runs.specs.declared.summary.Summary.{Summary}
use Rattle.hh_states.specs.DaySettlement.{from_one_to, periods_on}
use Rattle.hh_states.specs.Reads.{result_in, summary_on}
use Rattle.hh_states.specs.Runs.{run_key_cmp}
use Rattle.hh_sqlrows.specs.Contents.{period_row, result_of, rows_of_run}
use Rattle.hh_sqlrows.specs.Forms.{rows_under_keys}
use Rattle.hh_sqlrows.specs.OfficeTables.{results}

module _ {A B : Type 0} (p : A → Bool) (f : A → Option B) (out : (x : A) → p x ≡ false → f x ≡ None) where
  pub read_of_picked : (xs : List A) → filter_map f (filter p xs) ≡ filter_map f xs
  read_of_picked [] = refl
  read_of_picked (x ∷ xs) = go (p x) refl (read_of_picked xs)
    where
      go : (b : Bool) → p x ≡ b → filter_map f (filter p xs) ≡ filter_map f xs → filter_map f (cond b (x ∷ filter p xs) (filter p xs)) ≡ cons_option (f x) (filter_map f xs)
      go true is rest = ap (cons_option (f x)) rest
      go false is rest = rest ∙ sym (ap (λ o. cons_option o (filter_map f xs)) (out x is))

module _ {A B C : Type 0} (p : A → Bool) (g : A → C) (h : A → B) (f : B → Option C) (picked : (x : A) → f (h x) ≡ cond (p x) (Some (g x)) None) where
  pub read_of_mapped : (xs : List A) → map g (filter p xs) ≡ filter_map f (map h xs)
  read_of_mapped [] = refl
  read_of_mapped (x ∷ xs) = go (p x) (read_of_mapped xs) ∙ sym (ap (λ o. cons_option o (filter_map f (map h xs))) (picked x))
    where
      go : (b : Bool) → map g (filter p xs) ≡ filter_map f (map h xs) → map g (cond b (x ∷ filter p xs) (filter p xs)) ≡ cons_option (cond b (Some (g x)) None) (filter_map f (map h xs))
      go true rest = ap (λ cs. g x ∷ cs) rest
      go false rest = rest

-- both tests for equal numbers agree
same_number : (a b : ℕ) → is_eq (nat_cmp a b) ≡ (a == b)
same_number a b = grind (arith, nat_tests)

-- a test that fails gives nothing
none_by : {B : Type 0} (b : Bool) (x : B) → b ≡ false → cond b (Some x) None ≡ None
none_by true x is = absurd (let e : ◌≡◌ {A = Bool} true false = is in cc)
none_by false x is = refl

-- the runs of a date, read from the rows of the date
pub runs_picked : (date : ℕ) (rows : List (RunKey × Summary))
    → filter_map (summary_on date) (filter (λ e. is_eq (nat_cmp e.0.date date)) rows) ≡ filter_map (summary_on date) rows
runs_picked date rows =
    read_of_picked (λ e. is_eq (nat_cmp e.0.date date)) (summary_on date) (λ e other. none_by (e.0.date == date) _ (sym (same_number e.0.date date) ∙ other)) rows

-- the rows of a run's accounts with their periods, read from the rows of the run
pub results_picked : (run : RunKey) (trees : Trees) → map period_row (rows_of_run run trees) ≡ filter_map (result_in run) (map result_of (rows_under_keys results trees))
results_picked run trees = read_of_mapped (λ e. is_eq (run_key_cmp e.0.run run)) period_row result_of (result_in run) (λ e. refl) (rows_under_keys results trees)

-- all Settlement Periods of a date are on that date
pub all_on_date : (date count : ℕ) → All (λ at. at.date ≡ date) (periods_on date count)
all_on_date date count = All-map (λ at. at.date ≡ date) (λ p. record { date = date; period = p }) (from_one_to count) (All-from_recursion (λ p. date ≡ date) (from_one_to count) (each_of (from_one_to count)))
  where
    each_of : (ps : List ℕ) → AllByRecursion (λ p. date ≡ date) ps
    each_of [] = tt
    each_of (p ∷ ps) = (refl, each_of ps)

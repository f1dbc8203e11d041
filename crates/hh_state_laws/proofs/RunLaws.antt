-- The tables of the state after a new run are the tables before it with what the run writes.
use Rattle.std.proofs.Common.{◌≡◌, List, [], ◌∷◌, ◌++◌, map, refl, sym, ap, subst, ◌∙◌, true, false, Option, None, Ordering, append_assoc}
use Rattle.std.specs.Prelude.{ℤ, take, Some}
use Rattle.std.specs.FinMap.{find, put}
use Rattle.std.specs.List.{AllByRecursion, flat_map}
use Rattle.std.specs.Ordering.{eq_by_cmp, nat_cmp, ordering_then}
use Rattle.std.proofs.lemmas.List.{append-nil}
use Rattle.hh_tables.specs.Tables.{in_key_order, put_all}
use Rattle.hh_time.specs.Days.{Midnights, period_count}
use Rattle.hh_names.specs.Accounts.{account_cmp}
use Rattle.hh_rules.specs.Lateness.{Timetable}
use Rattle.hh_calc.specs.declared.result.AccountRow.{AccountRow}
use Rattle.hh_runs.specs.declared.summary.Summary.{Summary}
use Rattle.hh_runs.specs.declared.run_key.RunKey.{RunKey}
use Rattle.hh_states.specs.declared.run_keys.CreditKey.{CreditKey}
use Rattle.hh_states.specs.declared.run_keys.PostingKey.{PostingKey}
use Rattle.hh_states.specs.declared.run_keys.ResultKey.{ResultKey}
use Rattle.hh_states.specs.Changes.{RunEffect}
use Rattle.hh_states.specs.Content.{all_credits, all_postings, all_results, all_summaries, credit_entries, credit_key_cmp, posting_entries, posting_key_cmp, result_entries, result_key_cmp, runs_with_former, tables_of}
use Rattle.hh_states.specs.PeriodSettlement.{unit_account_cmp}
use Rattle.hh_states.specs.Runs.{Run, latest_run, nets_of, postings_after, run_key_cmp, settled_by, summary_after, with_former}
use Rattle.hh_states.specs.States.{State}
use Rattle.hh_states.specs.Steps.{after_run, new_run, new_summary, timetable_at}
use Rattle.hh_states.proofs.KeyLaws.{credit_key_total, exact_credit_keys, exact_posting_keys, exact_result_keys, exact_run_keys, posting_key_total, result_key_total, run_key_total}
use Rattle.hh_state_laws.proofs.ApartLaws.{Lacks, all-before-map, all-weaken, apart_from_blocks, first_part, have_one_key, in_key_order-append_all, lacks}
use Rattle.hh_state_laws.proofs.LoadLaws.{in_key_order-append}
use Rattle.hh_state_laws.proofs.RunRowLaws.{credits_own, postings_distinct, postings_own, results_distinct, results_own, run_credits_distinct}

-- a new run comes last, paired with the latest run of its date before it
pub with_former-append : (earlier runs : List Run) (r : Run) → with_former earlier (runs ++ r ∷ []) ≡ with_former earlier runs ++ (latest_run r.key.date (earlier ++ runs), r) ∷ []
with_former-append earlier [] r = ap (λ es. (latest_run r.key.date es, r) ∷ []) (sym (append-nil earlier))
with_former-append earlier (x ∷ runs) r =
    ap (λ ps. (latest_run x.key.date earlier, x) ∷ ps) (with_former-append (earlier ++ x ∷ []) runs r ∙ ap (λ es. with_former (earlier ++ x ∷ []) runs ++ (latest_run r.key.date es, r) ∷ []) (append_assoc earlier (x ∷ []) runs))

map-push : {X Y : Type 0} (f : X → Y) (xs : List X) (x : X) → map f (xs ++ x ∷ []) ≡ map f xs ++ f x ∷ []
map-push f [] x = refl
map-push f (y ∷ xs) x = ap (λ ys. f y ∷ ys) (map-push f xs x)

flat_map-push : {X Y : Type 0} (f : X → List Y) (xs : List X) (x : X) → flat_map f (xs ++ x ∷ []) ≡ flat_map f xs ++ f x
flat_map-push f [] x = append-nil (f x)
flat_map-push f (y ∷ xs) x = ap (λ ys. f y ++ ys) (flat_map-push f xs x) ∙ sym (append_assoc (f y) (flat_map f xs) (f x))

-- if each run paired with its former has a property, so has each run
all_runs : (P : Run → Type 0) (earlier runs : List Run) → AllByRecursion (λ r. P r.1) (with_former earlier runs) → AllByRecursion P runs
all_runs P earlier [] h = tt
all_runs P earlier (r ∷ runs) h = (h.0, all_runs P (earlier ++ r ∷ []) runs h.1)

-- entries under keys of a new run are none of the entries of other runs
module _ {X K V : Type 0} (R : K → K → Ordering) (run_of : K → RunKey) (unlike : (a b : K) → eq_by_cmp run_key_cmp (run_of a) (run_of b) ≡ false → eq_by_cmp R a b ≡ false)
    (key_of : X → RunKey) (entries : X → List (K × V)) (own : (x : X) → AllByRecursion (λ e. run_of e.0 ≡ key_of x) (entries x)) where
  all_new : (key : RunKey) (xs : List X) → AllByRecursion (λ x. eq_by_cmp run_key_cmp key (key_of x) ≡ false) xs → (fs : List (K × V)) → AllByRecursion (λ f. run_of f.0 ≡ key) fs
      → AllByRecursion (λ f. Lacks R f.0 (flat_map entries xs)) fs
  all_new key xs others fs owned =
      all-weaken (λ f. run_of f.0 ≡ key) (λ f. Lacks R f.0 (flat_map entries xs))
      (λ f is. apart_from_blocks (eq_by_cmp run_key_cmp) (have_one_key R) key_of (λ (e : K × V). run_of e.0) (λ a b. unlike a.0 b.0) entries own f xs (subst (λ k. AllByRecursion (λ x. eq_by_cmp run_key_cmp k (key_of x) ≡ false) xs) (sym is) others))
      fs owned

module _ (midnight : Midnights) (s : State) (key : RunKey) where
  abbrev timetable : Timetable
  timetable = timetable_at midnight s

  abbrev run : Run
  run = new_run s key

  abbrev former : Option Run
  former = latest_run key.date s.runs

  abbrev summary_entry : Option Run × Run → RunKey × Summary
  summary_entry r = (r.1.key, summary_after timetable s.history r.0 r.1)

  abbrev results_of : Run → List (ResultKey × AccountRow)
  results_of r = result_entries r.key (settled_by timetable s.history r)

  abbrev credits_of_run : Run → List (CreditKey × ℤ)
  credits_of_run r = credit_entries r.key (settled_by timetable s.history r)

  abbrev postings_of : Option Run × Run → List (PostingKey × ℤ)
  postings_of r = posting_entries r.1.key (postings_after timetable s.history r.0 r.1)

  pairs : with_former [] (s.runs ++ run ∷ []) ≡ runs_with_former s ++ (former, run) ∷ []
  pairs = with_former-append [] s.runs run

  module _ (new : find run_key_cmp key (all_summaries timetable s) ≡ None) where
    others_with_former : AllByRecursion (λ r. eq_by_cmp run_key_cmp key r.1.key ≡ false) (runs_with_former s)
    others_with_former = all-before-map (λ (e : RunKey × Summary). eq_by_cmp run_key_cmp key e.0 ≡ false) summary_entry (runs_with_former s) (lacks run_key_cmp key (all_summaries timetable s) new)

    -- the key of a run that does not exist differs from those of all runs
    pub others : AllByRecursion (λ r. eq_by_cmp run_key_cmp key r.key ≡ false) s.runs
    others = all_runs (λ r. eq_by_cmp run_key_cmp key r.key ≡ false) [] s.runs others_with_former

    results_new : AllByRecursion (λ f. Lacks result_key_cmp f.0 (all_results timetable s)) (results_of run)
    results_new =
        all_new result_key_cmp (λ k. k.run) (λ a b. first_part (run_key_cmp a.run b.run) (ordering_then (nat_cmp a.period b.period) (account_cmp a.account b.account)))
        (λ (r : Run). r.key) results_of (λ r. results_own r.key (settled_by timetable s.history r)) key s.runs others (results_of run) (results_own key (settled_by timetable s.history run))

    credits_new : AllByRecursion (λ f. Lacks credit_key_cmp f.0 (all_credits timetable s)) (credits_of_run run)
    credits_new =
        all_new credit_key_cmp (λ k. k.run) (λ a b. first_part (run_key_cmp a.run b.run) (ordering_then (nat_cmp a.period b.period) (unit_account_cmp (a.unit, a.account) (b.unit, b.account))))
        (λ (r : Run). r.key) credits_of_run (λ r. credits_own r.key (settled_by timetable s.history r)) key s.runs others (credits_of_run run) (credits_own key (settled_by timetable s.history run))

    postings_new : AllByRecursion (λ f. Lacks posting_key_cmp f.0 (all_postings timetable s)) (postings_of (former, run))
    postings_new =
        all_new posting_key_cmp (λ k. k.run) (λ a b. first_part (run_key_cmp a.run b.run) (account_cmp a.account b.account))
        (λ (r : Option Run × Run). r.1.key) postings_of (λ r. postings_own r.1.key (postings_after timetable s.history r.0 r.1)) key (runs_with_former s) others_with_former (postings_of (former, run)) (postings_own key (postings_after timetable s.history former run))

    runs_path : in_key_order run_key_cmp (all_summaries timetable (after_run s key)) ≡ put run_key_cmp key (new_summary midnight s key) (in_key_order run_key_cmp (all_summaries timetable s))
    runs_path =
        ap (in_key_order run_key_cmp) (ap (map summary_entry) pairs ∙ map-push summary_entry (runs_with_former s) (former, run))
        ∙ in_key_order-append run_key_total exact_run_keys (all_summaries timetable s) key (new_summary midnight s key) new

    results_path : in_key_order result_key_cmp (all_results timetable (after_run s key)) ≡ put_all result_key_cmp (results_of run) (in_key_order result_key_cmp (all_results timetable s))
    results_path =
        ap (in_key_order result_key_cmp) (flat_map-push results_of s.runs run)
        ∙ in_key_order-append_all result_key_total exact_result_keys (results_of run) (all_results timetable s) results_new (results_distinct key timetable (take run.row_count s.history) key.date (period_count midnight key.date))

    credits_path : in_key_order credit_key_cmp (all_credits timetable (after_run s key)) ≡ put_all credit_key_cmp (credits_of_run run) (in_key_order credit_key_cmp (all_credits timetable s))
    credits_path =
        ap (in_key_order credit_key_cmp) (flat_map-push credits_of_run s.runs run)
        ∙ in_key_order-append_all credit_key_total exact_credit_keys (credits_of_run run) (all_credits timetable s) credits_new (run_credits_distinct key timetable (take run.row_count s.history) key.date (period_count midnight key.date))

    postings_path : in_key_order posting_key_cmp (all_postings timetable (after_run s key)) ≡ put_all posting_key_cmp (postings_of (former, run)) (in_key_order posting_key_cmp (all_postings timetable s))
    postings_path =
        ap (in_key_order posting_key_cmp) (ap (flat_map postings_of) pairs ∙ flat_map-push postings_of (runs_with_former s) (former, run))
        ∙ in_key_order-append_all posting_key_total exact_posting_keys (postings_of (former, run)) (all_postings timetable s) postings_new (postings_distinct key (nets_of timetable s.history former) (nets_of timetable s.history (Some run)))

-- writing what the machine writes for a new run gives the tables of the state after it
pub run_effect : RunEffect
run_effect midnight s moment key can = λ i. record {
  settings = s.settings;
  registered = (tables_of midnight s).registered;
  files = (tables_of midnight s).files;
  runs = runs_path midnight s key can.0 i;
  results = results_path midnight s key can.0 i;
  credits = credits_path midnight s key can.0 i;
  postings = postings_path midnight s key can.0 i;
  is_in_step = true;
}

-- Properties of the states that the machine reaches; and a load leaves the tables of the runs as they are.
use Rattle.std.proofs.Common.{◌≡◌, ℕ, ◌+◌, ◌≤◌, List, [], ◌∷◌, ◌++◌, map, length, refl, ap, Bool, true, false, cond, Option, Some, None, arith, length-append}
use Rattle.std.specs.Prelude.{filter, ◌==◌}
use Rattle.std.specs.List.{flat_map}
use Rattle.std.proofs.lemmas.List.{take-append-le}
use Rattle.hh_num.specs.Totals.{total}
use Rattle.hh_tables.specs.Tables.{in_key_order}
use Rattle.hh_time.specs.Days.{Midnights, period_count}
use Rattle.hh_rules.specs.History.{History, registered_in}
use Rattle.hh_rules.specs.Lateness.{Timetable}
use Rattle.hh_runs.specs.DayNets.{differences}
use Rattle.hh_runs.specs.declared.summary.Summary.{Summary}
use Rattle.hh_runs.specs.declared.run_key.RunKey.{RunKey}
use Rattle.hh_states.specs.Changes.{LoadEffect}
use Rattle.hh_states.specs.Content.{credit_entries, credit_key_cmp, posting_entries, posting_key_cmp, result_entries, result_key_cmp}
use Rattle.hh_states.specs.DaySettlement.{day_nets, settled_day}
use Rattle.hh_states.specs.PeriodSettlement.{accounts_on}
use Rattle.hh_states.specs.Runs.{Run, last_of, nets_of, periods_of, postings_after, run_key_cmp, runs_of_date, seen_by, settled_by, summary_after, with_former}
use Rattle.hh_states.specs.States.{State}
use Rattle.hh_states.specs.Steps.{IsReached, at_first, by_load, by_run, kept_file, new_run, rows_coming, timetable_at}
use Rattle.hh_states.proofs.KeyLaws.{exact_file_keys, file_key_total}
use Rattle.hh_state_laws.proofs.LoadLaws.{in_key_order-append, load_register}

-- no run was ordered when there were more than n rows
abbrev pub AreWithin : ℕ → List Run → Type 0
AreWithin n [] = Unit {0}
AreWithin n (r ∷ runs) = (r.row_count ≤ n) × AreWithin n runs

-- a run, if there is one, was ordered when there were at most n rows
abbrev IsFormerWithin : ℕ → Option Run → Type 0
IsFormerWithin n None = Unit {0}
IsFormerWithin n (Some r) = r.row_count ≤ n

-- the runs of all pairs were ordered when there were at most n rows
abbrev ArePairsWithin : ℕ → List (Option Run × Run) → Type 0
ArePairsWithin n [] = Unit {0}
ArePairsWithin n (r ∷ pairs) = IsFormerWithin n r.0 × (r.1.row_count ≤ n) × ArePairsWithin n pairs

within_append : (n : ℕ) (xs : List Run) (r : Run) → AreWithin n xs → r.row_count ≤ n → AreWithin n (xs ++ r ∷ [])
within_append n [] r h k = (k, tt)
within_append n (x ∷ xs) r h k = (h.0, within_append n xs r h.1 k)

within_more : (n m : ℕ) (xs : List Run) → n ≤ m → AreWithin n xs → AreWithin m xs
within_more n m [] le h = tt
within_more n m (x ∷ xs) le h = ((let first : x.row_count ≤ n = h.0 in omega arith), within_more n m xs le h.1)

within_filter : (n : ℕ) (test : Run → Bool) (xs : List Run) → AreWithin n xs → AreWithin n (filter test xs)
within_filter n test [] h = tt
within_filter n test (x ∷ xs) h = elim (test x) as (λ b. AreWithin n (cond b (x ∷ filter test xs) (filter test xs))) [ true ↦ (h.0, within_filter n test xs h.1) | false ↦ within_filter n test xs h.1 ]

last_within : (n : ℕ) (xs : List Run) → AreWithin n xs → IsFormerWithin n (last_of xs)
last_within n [] h = tt
last_within n (x ∷ []) h = h.0
last_within n (x ∷ y ∷ xs) h = last_within n (y ∷ xs) h.1

pairs_within : (n : ℕ) (earlier runs : List Run) → AreWithin n earlier → AreWithin n runs → ArePairsWithin n (with_former earlier runs)
pairs_within n earlier [] before h = tt
pairs_within n earlier (r ∷ runs) before h =
    (last_within n (runs_of_date r.key.date earlier) (within_filter n (λ x. x.key.date == r.key.date) earlier before), h.0, pairs_within n (earlier ++ r ∷ []) runs (within_append n earlier r before h.0) h.1)

-- in each reached state, every run was ordered when no more rows had been accepted than now
pub reached_within : (midnight : Midnights) (s : State) → IsReached midnight s → AreWithin (length s.history) s.runs
reached_within midnight s (at_first settings fine) = tt
reached_within midnight s (by_load t load reached can) =
    within_more (length t.history) (length (t.history ++ rows_coming load)) t.runs (let e : length (t.history ++ rows_coming load) ≡ length t.history + length (rows_coming load) = length-append t.history (rows_coming load) in omega arith) (reached_within midnight t reached)
reached_within midnight s (by_run t moment key reached can) =
    within_append (length t.history) t.runs (new_run t key) (reached_within midnight t reached) (omega arith)

module _ (timetable : Timetable) (history more : History) where
  -- later rows don't change what a run saw
  pub seen_same : (r : Run) → r.row_count ≤ length history → seen_by timetable (history ++ more) r ≡ seen_by timetable history r
  seen_same r h = ap (registered_in timetable) (take-append-le r.row_count history more h)

  settled_same : (r : Run) → r.row_count ≤ length history → settled_by timetable (history ++ more) r ≡ settled_by timetable history r
  settled_same r h = ap (λ tables. settled_day tables (periods_of timetable.midnight r)) (seen_same r h)

  nets_same : (r : Option Run) → IsFormerWithin (length history) r → nets_of timetable (history ++ more) r ≡ nets_of timetable history r
  nets_same None h = refl
  nets_same (Some r) h = ap (λ tables. day_nets (settled_day tables (periods_of timetable.midnight r)) (accounts_on tables r.key.date)) (seen_same r h)

  postings_same : (former : Option Run) (r : Run) → IsFormerWithin (length history) former → r.row_count ≤ length history → postings_after timetable (history ++ more) former r ≡ postings_after timetable history former r
  postings_same former r before h = λ i. differences (nets_same former before i) (nets_same (Some r) h i)

  summary_same : (former : Option Run) (r : Run) → IsFormerWithin (length history) former → r.row_count ≤ length history → summary_after timetable (history ++ more) former r ≡ summary_after timetable history former r
  summary_same former r before h = λ i. record {
    periods = period_count timetable.midnight r.key.date;
    accounts = length (accounts_on (seen_same r h i) r.key.date);
    residual = total (λ q. q.1.residual) (settled_same r h i);
    postings = length (postings_same former r before h i);
  }

  results_same : (runs : List Run) → AreWithin (length history) runs → flat_map (λ r. result_entries r.key (settled_by timetable (history ++ more) r)) runs ≡ flat_map (λ r. result_entries r.key (settled_by timetable history r)) runs
  results_same [] h = refl
  results_same (r ∷ runs) h = λ i. result_entries r.key (settled_same r h.0 i) ++ results_same runs h.1 i

  credits_same : (runs : List Run) → AreWithin (length history) runs → flat_map (λ r. credit_entries r.key (settled_by timetable (history ++ more) r)) runs ≡ flat_map (λ r. credit_entries r.key (settled_by timetable history r)) runs
  credits_same [] h = refl
  credits_same (r ∷ runs) h = λ i. credit_entries r.key (settled_same r h.0 i) ++ credits_same runs h.1 i

  summaries_same : (pairs : List (Option Run × Run)) → ArePairsWithin (length history) pairs
      → map {B = RunKey × Summary} (λ r. (r.1.key, summary_after timetable (history ++ more) r.0 r.1)) pairs ≡ map (λ r. (r.1.key, summary_after timetable history r.0 r.1)) pairs
  summaries_same [] h = refl
  summaries_same (r ∷ pairs) h = λ i. (r.1.key, summary_same r.0 r.1 h.0 h.1 i) ∷ summaries_same pairs h.2 i

  all_postings_same : (pairs : List (Option Run × Run)) → ArePairsWithin (length history) pairs
      → flat_map (λ r. posting_entries r.1.key (postings_after timetable (history ++ more) r.0 r.1)) pairs ≡ flat_map (λ r. posting_entries r.1.key (postings_after timetable history r.0 r.1)) pairs
  all_postings_same [] h = refl
  all_postings_same (r ∷ pairs) h = λ i. posting_entries r.1.key (postings_same r.0 r.1 h.0 h.1 i) ++ all_postings_same pairs h.2 i

-- writing what the machine writes for an accepted load gives the tables of the state after it
pub load_effect : LoadEffect
load_effect midnight s load reached can =
    let timetable : Timetable = timetable_at midnight s in
    let more : History = rows_coming load in
    let within = reached_within midnight s reached in
    let pairs = pairs_within (length s.history) [] s.runs tt within in
    λ i. record {
      settings = s.settings;
      registered = load_register timetable s.history more i;
      files = in_key_order-append file_key_total exact_file_keys s.files load.key (kept_file timetable load) can.new i;
      runs = in_key_order run_key_cmp (summaries_same timetable s.history more (with_former [] s.runs) pairs i);
      results = in_key_order result_key_cmp (results_same timetable s.history more s.runs within i);
      credits = in_key_order credit_key_cmp (credits_same timetable s.history more s.runs within i);
      postings = in_key_order posting_key_cmp (all_postings_same timetable s.history more (with_former [] s.runs) pairs i);
      is_in_step = true;
    }

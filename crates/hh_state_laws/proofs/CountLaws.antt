-- How many accounts a run settles and posts to at most; and the summary of each run is within its limits.
use Rattle.std.proofs.Common.{◌≡◌, ℕ, zero, suc, ◌*◌, ◌≤◌, List, [], ◌∷◌, ◌++◌, length, map, refl, sym, ap, subst, ◌∙◌, Bool, true, false, cond, Option, Some, None, Ordering, arith}
use Rattle.std.specs.Prelude.{ℤ, ◌≢◌, Contains, drop, filter, is_some, take, unsigned_abs}
use Rattle.std.specs.Cmp.{IsTotalOrder, eq_by_cmp_equiv}
use Rattle.std.specs.FinMap.{find, put}
use Rattle.std.specs.FinMap.Entries.{by_order}
use Rattle.std.specs.List.{AllByRecursion, flat_map}
use Rattle.std.specs.Ordering.{eq_by_cmp}
use Rattle.std.specs.declared.cmp.Ordering.TheVariants.{Less, Equal, Greater}
use Rattle.std.proofs.lemmas.List.{length-map}
use Rattle.std.proofs.lemmas.List.Elements.{Contains-append_right, filter_map-append}
use Rattle.std.proofs.lemmas.Map.Lookups.{exact_bytes}
use Rattle.hh_num.specs.Totals.{total}
use Rattle.hh_tables.specs.Tables.{Table, in_key_order, latest}
use Rattle.hh_tables.proofs.RowLaws.{equal}
use Rattle.hh_tables.proofs.TableLaws.{false_is_not_true, find-in_key_order, is_some-find-latest}
use Rattle.hh_time.specs.Days.{Midnights, period_count}
use Rattle.hh_names.specs.declared.account.Account.{Account}
use Rattle.hh_names.specs.Accounts.{account_cmp, bytes_cmp}
use Rattle.hh_names.proofs.AccountLaws.{account_total, bytes_total}
use Rattle.hh_rows.specs.DateRanges.{holds}
use Rattle.hh_rows.specs.declared.rows.PartyRegistration.{PartyRegistration}
use Rattle.hh_rows.specs.declared.settlement_period.SettlementPeriod.{SettlementPeriod}
use Rattle.hh_rules.specs.Entries.{party_entry}
use Rattle.hh_rules.specs.History.{History, Registered, entries_of, registered_in}
use Rattle.hh_rules.specs.Lateness.{Timetable}
use Rattle.hh_rules.specs.Refusals.{most_parties}
use Rattle.hh_calc.specs.Limits.{greatest_cash}
use Rattle.hh_calc.specs.Terms.{Settled}
use Rattle.hh_runs.specs.DayNets.{DayNets, is_difference, with_change}
use Rattle.hh_states.specs.Amounts.{IsSummaryWithin, SummariesWithin, most_accounts, most_periods}
use Rattle.hh_states.specs.Content.{runs_with_former}
use Rattle.hh_states.specs.DaySettlement.{day_net, settled_at}
use Rattle.hh_names.specs.PartyAccounts.{both_accounts}
use Rattle.hh_states.specs.PeriodSettlement.{accounts_on}
use Rattle.hh_states.specs.Runs.{Run, accounts_of, nets_of, periods_of, postings_after, seen_by, settled_by, summary_after}
use Rattle.hh_states.specs.Soundness.{AreConsistent}
use Rattle.hh_states.specs.States.{State}
use Rattle.hh_states.specs.Steps.{registered_at, timetable_at}
use Rattle.hh_state_laws.proofs.ApartLaws.{NoneAlike, all-append, all-filter, all-map, all-weaken, have_one_key}
use Rattle.hh_state_laws.proofs.CompleteLaws.{IsComplete, runs_complete}
use Rattle.hh_state_laws.proofs.ConsistentLaws.{reached_consistent, runs_consistent}
use Rattle.hh_state_laws.proofs.PostingLaws.{all-with_former, differences_distinct}
use Rattle.hh_state_laws.proofs.ReadyLaws.{Differ, all_both, differs, no_more, one_of_both, two_each}
use Rattle.hh_state_laws.proofs.TurnoverLaws.{all_within, day_residual, few_periods, periods_counted, total_by_most}

-- elements that are pairwise told apart differ
apart_differ : {X : Type 0} (alike : X → X → Bool) (D : X → X → Type 0) → ((x y : X) → alike x y ≡ false → D x y) → (xs : List X) → NoneAlike alike xs → Differ D xs
apart_differ alike D told [] h = tt
apart_differ alike D told (x ∷ xs) h = (all-weaken (λ y. alike x y ≡ false) (D x) (told x) xs h.0, apart_differ alike D told xs h.1)

module _ {K V : Type 0} (R : K → K → Ordering) where
  -- a key that is found is still found with more entries behind
  found_with_more : (q : K) (es fs : List (K × V)) → is_some (find R q es) ≡ true → is_some (find R q (es ++ fs)) ≡ true
  found_with_more q [] fs there = absurd (false_is_not_true there)
  found_with_more q (e ∷ es) fs there =
      elim (eq_by_cmp R q e.0) as (λ b. is_some (cond b (Some e.1) (find R q es)) ≡ true → is_some (cond b (Some e.1) (find R q (es ++ fs))) ≡ true) [
        | true ↦ λ is. refl
        | false ↦ λ is. found_with_more q es fs is
      ] there

  -- each key of a list is found there
  own_found : (o : IsTotalOrder R) (es : List (K × V)) → AllByRecursion (λ e. is_some (find R e.0 es) ≡ true) es
  own_found o [] = tt
  own_found o (e ∷ es) = (
    ap (λ b. is_some (cond b (Some e.1) (find R e.0 es))) ((eq_by_cmp_equiv o).refl e.0),
    all-weaken (λ f. is_some (find R f.0 es) ≡ true) (λ f. is_some (find R f.0 (e ∷ es)) ≡ true) (λ f. behind f.0 e.1 (eq_by_cmp R f.0 e.0)) es (own_found o es),
  )
    where
      behind : (q : K) (v : V) (b : Bool) → is_some (find R q es) ≡ true → is_some (cond b (Some v) (find R q es)) ≡ true
      behind q v true there = refl
      behind q v false there = there

  module _ (P : K → Type 0) where
    -- if the keys of entries have a property, and one more key has it, so have the keys after that one is put
    keys_with : (k : K) (v : V) (es : List (K × V)) → P k → AllByRecursion (λ e. P e.0) es → AllByRecursion (λ e. P e.0) (put R k v es)
    keys_with k v [] one all = (one, tt)
    keys_with k v (e ∷ es) one all =
        elim (R k e.0) as (λ r. AllByRecursion (λ e. P e.0) (by_order r ((k, v) ∷ e ∷ es) ((e.0, v) ∷ es) (e ∷ put R k v es))) [
          | Less ↦ (one, all)
          | Equal ↦ all
          | Greater ↦ (all.0, keys_with k v es one all.1)
        ]

    -- so the keys have it after sorting
    keys_in_order : (es : List (K × V)) → AllByRecursion (λ e. P e.0) es → AllByRecursion (λ e. P e.0) (in_key_order R es)
    keys_in_order [] all = tt
    keys_in_order (e ∷ es) all = keys_with e.0 e.1 (in_key_order R es) all.0 (keys_in_order es all.1)

-- a list is its first elements and the others
taken_and_left : {X : Type 0} (n : ℕ) (xs : List X) → take n xs ++ drop n xs ≡ xs
taken_and_left zero xs = refl
taken_and_left (suc n) [] = refl
taken_and_left (suc n) (x ∷ xs) = ap (λ ys. x ∷ ys) (taken_and_left n xs)

-- a registered party stays registered
module _ (timetable : Timetable) (history : History) (n : ℕ) where
  -- a party is found exactly if it is among the rows of parties
  found_among : (rows : History) (party : List ℕ) → is_some (find bytes_cmp party (registered_in timetable rows).parties) ≡ is_some (find bytes_cmp party (entries_of party_entry rows))
  found_among rows party =
      ap is_some (find-in_key_order bytes_total (latest bytes_cmp (entries_of party_entry rows)) party)
      ∙ is_some-find-latest bytes_total (entries_of party_entry rows) party

  party_kept : (party : List ℕ) → is_some (find bytes_cmp party (registered_in timetable (take n history)).parties) ≡ true → is_some (find bytes_cmp party (registered_in timetable history).parties) ≡ true
  party_kept party there =
      found_among history party
      ∙ ap (λ rows. is_some (find bytes_cmp party rows)) (ap (entries_of party_entry) (sym (taken_and_left n history)) ∙ filter_map-append (λ a. party_entry a.row) (take n history) (drop n history))
      ∙ found_with_more bytes_cmp party (entries_of party_entry (take n history)) (entries_of party_entry (drop n history)) (sym (found_among (take n history) party) ∙ there)

-- both accounts of each party
abbrev everyone : Table (List ℕ) PartyRegistration → List Account
everyone parties = flat_map (λ e. both_accounts e.0) parties

-- there are twice as many as parties
two_of_each : (parties : Table (List ℕ) PartyRegistration) → length (everyone parties) ≡ 2 * length parties
two_of_each [] = omega arith
two_of_each (e ∷ parties) = let rest = two_of_each parties in omega arith

-- the accounts of registered parties are among them
account_known : (parties : Table (List ℕ) PartyRegistration) (a : Account) → is_some (find bytes_cmp a.party parties) ≡ true → Contains (everyone parties) a
account_known [] a there = absurd (false_is_not_true there)
account_known (e ∷ parties) a there =
    elim (eq_by_cmp bytes_cmp a.party e.0) as (λ b. eq_by_cmp bytes_cmp a.party e.0 ≡ b → is_some (cond b (Some e.1) (find bytes_cmp a.party parties)) ≡ true → Contains (everyone (e ∷ parties)) a) [
      | true ↦ λ same is. one_of_both a.side a.party e.0 (everyone parties) (sym (exact_bytes a.party e.0 (equal (bytes_cmp a.party e.0) same)))
      | false ↦ λ other is. Contains-append_right (both_accounts e.0) (everyone parties) a (account_known parties a is)
    ] refl there

-- if both accounts of each party that passes have a property, so have all accounts of a date
both_of_each : (P : List ℕ → Type 0) (test : List ℕ × PartyRegistration → Bool) (parties : Table (List ℕ) PartyRegistration) → AllByRecursion (λ e. P e.0) parties
    → AllByRecursion (λ a. P a.party) (flat_map (λ e. both_accounts e.0) (filter test parties))
both_of_each P test [] all = tt
both_of_each P test (e ∷ parties) all = elim (test e) as (λ b. AllByRecursion (λ a. P a.party) (flat_map (λ x. both_accounts x.0) (cond b (e ∷ filter test parties) (filter test parties)))) [
  | true ↦ (all.0, (all.0, both_of_each P test parties all.1))
  | false ↦ both_of_each P test parties all.1
]

module _ (timetable : Timetable) (history : History) where
  -- both accounts of each registered party
  abbrev known : List Account
  known = everyone (registered_in timetable history).parties

  -- the accounts that a run settles are among them
  settled_known : (run : Run) → AllByRecursion (λ a. Contains known a) (accounts_of timetable history run)
  settled_known run =
      let saw : Registered = seen_by timetable history run in
      all-weaken (λ a. is_some (find bytes_cmp a.party (registered_in timetable history).parties) ≡ true) (λ a. Contains known a)
      (account_known (registered_in timetable history).parties) (accounts_on saw run.key.date)
      (both_of_each (λ party. is_some (find bytes_cmp party (registered_in timetable history).parties) ≡ true) (λ e. holds e.1.range run.key.date) saw.parties
      (all-weaken (λ e. is_some (find bytes_cmp e.0 saw.parties) ≡ true) (λ e. is_some (find bytes_cmp e.0 (registered_in timetable history).parties) ≡ true)
      (λ e. party_kept timetable history run.row_count e.0) saw.parties (own_found bytes_cmp bytes_total saw.parties)))

  -- so are the accounts that have day nets in it
  nets_known : (o : Option Run) → AllByRecursion (λ e. Contains known e.0) (nets_of timetable history o)
  nets_known None = tt
  nets_known (Some run) =
      all-map (λ (e : Account × ℤ). Contains known e.0) (λ a. (a, day_net (settled_by timetable history run) a)) (accounts_of timetable history run) (settled_known run)

  -- and the accounts to which it posts
  postings_known : (former : Option Run) (run : Run) → AllByRecursion (λ e. Contains known e.0) (postings_after timetable history former run)
  postings_known former run =
      let old : DayNets = nets_of timetable history former in
      let new : DayNets = nets_of timetable history (Some run) in
      all-filter (λ e. Contains known e.0) is_difference (in_key_order account_cmp (map (with_change old new) (new ++ old)))
      (keys_in_order account_cmp (Contains known) (map (with_change old new) (new ++ old))
      (all-map (λ (e : Account × ℤ). Contains known e.0) (with_change old new) (new ++ old)
      (all-append (λ e. Contains known e.0) new old (nets_known (Some run)) (nets_known former))))

  -- it posts to no more accounts than there are
  few_postings : (former : Option Run) (run : Run) → length (postings_after timetable history former run) ≤ 2 * length (registered_in timetable history).parties
  few_postings former run =
      let posts : DayNets = postings_after timetable history former run in
      subst (λ n. length posts ≤ n) (two_of_each (registered_in timetable history).parties)
      (no_more (λ (e : Account × ℤ). e.0) posts known
      (apart_differ (have_one_key account_cmp) (λ x y. x.0 ≢ y.0) (λ x y. differs account_total x.0 y.0) posts (differences_distinct (nets_of timetable history former) (nets_of timetable history (Some run))))
      (postings_known former run))

-- if a run lacked nothing, and the state is consistent and was so when it was ordered, the run's summary is within its limits
module _ (midnight : Midnights) (s : State) (consistent : AreConsistent (registered_at midnight s)) (run : Run) (former : Option Run) where
  -- what the run saw
  abbrev saw : Registered
  saw = seen_by (timetable_at midnight s) s.history run

  summary_within : AreConsistent saw → IsComplete saw (periods_of midnight run) → IsSummaryWithin (summary_after (timetable_at midnight s) s.history former run)
  summary_within then complete =
      let timetable : Timetable = timetable_at midnight s in
      let periods = periods_of midnight run in
      let within = all_within saw periods complete.limits in
      let settled : length (settled_by timetable s.history run) ≡ period_count midnight run.key.date = length-map periods (settled_at saw) ∙ periods_counted run.key.date (period_count midnight run.key.date) in
      let few : period_count midnight run.key.date ≤ most_periods = few_periods midnight run.key.date in
      let sum = total_by_most (λ (q : SettlementPeriod × Settled). q.1.residual) greatest_cash (settled_by timetable s.history run)
      (day_residual timetable (take run.row_count s.history) periods within) in
      let each : length (accounts_on saw run.key.date) ≤ 2 * length saw.parties = two_each (λ e. holds e.1.range run.key.date) saw.parties in
      let posted : length (postings_after timetable s.history former run) ≤ 2 * length (registered_at midnight s).parties = few_postings timetable s.history former run in
      record {
        periods = few;
        accounts = doubled (length (accounts_on saw run.key.date)) (length saw.parties) each then.parties;
        residual = summed (unsigned_abs (total (λ q. q.1.residual) (settled_by timetable s.history run))) (length (settled_by timetable s.history run)) (period_count midnight run.key.date) sum settled few;
        postings = doubled (length (postings_after timetable s.history former run)) (length (registered_at midnight s).parties) posted consistent.parties;
      }
    where
      doubled : (count parties : ℕ) → count ≤ 2 * parties → parties ≤ most_parties → count ≤ most_accounts
      doubled count parties twice few = omega arith

      summed : (size days n : ℕ) → size ≤ days * greatest_cash → days ≡ n → n ≤ most_periods → size ≤ most_periods * greatest_cash
      summed size days n most same few = omega arith

-- in each reached state the summary of each run is within its limits
pub summaries_within : SummariesWithin
summaries_within midnight s reached =
    let timetable : Timetable = timetable_at midnight s in
    let Fits : Run → Type 0 = λ r. (former : Option Run) → IsSummaryWithin (summary_after timetable s.history former r) in
    let held : AllByRecursion Fits s.runs =
    all-weaken (λ r. AreConsistent (seen_by timetable s.history r) × IsComplete (seen_by timetable s.history r) (periods_of midnight r)) Fits
    (λ r h former. summary_within midnight s (reached_consistent midnight s reached) r former h.0 h.1) s.runs
    (all_both (λ r. AreConsistent (seen_by timetable s.history r)) (λ r. IsComplete (seen_by timetable s.history r) (periods_of midnight r)) s.runs
    (runs_consistent midnight s reached) (runs_complete midnight s reached)) in
    all-weaken (λ r. Fits r.1) (λ r. IsSummaryWithin (summary_after timetable s.history r.0 r.1)) (λ r fits. fits r.0) (runs_with_former s)
    (all-with_former Fits [] s.runs held)

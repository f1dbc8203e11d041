-- If what is registered and in force is consistent, each Settlement Period may be settled from it. So this holds in each state that
-- the machine reaches.
use Rattle.std.proofs.Common.{◌≡◌, ◌≢◌, ℕ, zero, suc, ◌*◌, ◌≤◌, ◌<◌, List, [], ◌∷◌, ◌++◌, length, map, refl, sym, ap, subst, ◌∙◌, Bool, true, false, cond, Option, Some, None, Ordering, arith}
use Rattle.std.specs.Prelude.{All, AllPairs, Contains, T, filter, filter_map, is_some, option_map, unwrap_or, ℤ}
use Rattle.std.specs.Cmp.{IsTotalOrder, Equal-is, eq_by_cmp_equiv, tied_itself}
use Rattle.std.specs.FinMap.{find, is_sorted}
use Rattle.std.specs.FinMap.Entries.{below_all}
use Rattle.std.specs.List.{AllByRecursion, cons_option, flat_map, remove}
use Rattle.std.specs.List.Sorted.{IsPermutation, IsStrictlySortedBy}
use Rattle.std.specs.Ordering.{eq_by_cmp, ordering_then}
use Rattle.std.specs.declared.cmp.Ordering.TheVariants.{Less}
use Rattle.std.proofs.lemmas.List.Elements.{All-from_recursion, Contains-append_right}
use Rattle.std.proofs.lemmas.List.Sorted.{Contains-permutation, IsPermutation-remove, length_permutation}
use Rattle.std.proofs.lemmas.Map.Lookups.{exact_bytes}
use Rattle.hh_tables.specs.Tables.{Table}
use Rattle.hh_tables.proofs.MergeLaws.{from_true}
use Rattle.hh_tables.proofs.RowLaws.{equal, first, less, second, sorted-filter}
use Rattle.hh_tables.proofs.TableLaws.{false_is_not_true}
use Rattle.hh_names.specs.declared.account.Account.{Account}
use Rattle.hh_names.specs.declared.account.Side.{Side}
use Rattle.hh_names.specs.declared.account.Side.TheVariants.{Production, Consumption}
use Rattle.hh_names.specs.declared.values.Counterparties.{Counterparties}
use Rattle.hh_names.specs.declared.values.Reading.{Reading}
use Rattle.hh_names.specs.declared.values.Reallocation.{Reallocation}
use Rattle.hh_names.specs.Accounts.{account_cmp, bytes_cmp, side_cmp}
use Rattle.hh_names.proofs.AccountLaws.{bytes_total}
use Rattle.hh_rows.specs.DateRanges.{holds}
use Rattle.hh_rows.specs.Keys.{contract_key_cmp, reallocation_key_cmp, settlement_period_cmp, unit_period_cmp}
use Rattle.hh_rows.specs.declared.keys.ContractKey.{ContractKey}
use Rattle.hh_rows.specs.declared.keys.ReallocationKey.{ReallocationKey}
use Rattle.hh_rows.specs.declared.keys.UnitPeriod.{UnitPeriod}
use Rattle.hh_rows.specs.declared.rows.ContractRow.{ContractRow}
use Rattle.hh_rows.specs.declared.rows.PartyRegistration.{PartyRegistration}
use Rattle.hh_rows.specs.declared.rows.UnitRegistration.{UnitRegistration}
use Rattle.hh_rows.specs.declared.settlement_period.SettlementPeriod.{SettlementPeriod}
use Rattle.hh_rows.proofs.KeyLaws.{contract_key_total, exact_settlement_periods, exact_unit_periods, reallocation_key_total}
use Rattle.hh_rules.specs.History.{Registered}
use Rattle.hh_rules.specs.Leads.{lead_on}
use Rattle.hh_rules.specs.Refusals.{most_parties}
use Rattle.hh_rules.specs.RegisterView.{reallocations_at}
use Rattle.hh_calc.specs.declared.data.Subsidiary.{Subsidiary}
use Rattle.hh_calc.specs.Ready.{AreContractsReady, HasFewSubsidiaries, IsContractListed, IsUnitListed}
use Rattle.hh_calc.specs.Terms.{UnitDataView}
use Rattle.hh_names.specs.PartyAccounts.{both_accounts}
use Rattle.hh_states.specs.PeriodSettlement.{accounts_on, reading_of, rows_in_force, subsidiaries_of, terms_at, unit_with, units_on}
use Rattle.hh_states.specs.Readiness.{AreTermsConsistent, PeriodsReady}
use Rattle.hh_states.specs.Soundness.{AreConsistent, IsPartyEffective}
use Rattle.hh_states.specs.Steps.{registered_at}
use Rattle.hh_states.specs.Sums.{CreditsEachOnce}
use Rattle.hh_state_laws.proofs.ApartLaws.{NoneAlike, all-map, all-weaken, all_passing, distinct-filter, have_one_key, sorted_distinct}
use Rattle.hh_state_laws.proofs.ConsistentLaws.{reached_consistent}

module _ {X : Type 0} (P : X → Type 0) where
  -- if all elements have two properties, all have both together
  pub all_both : (Q : X → Type 0) (xs : List X) → AllByRecursion P xs → AllByRecursion Q xs → AllByRecursion (λ x. P x × Q x) xs
  all_both Q [] h k = tt
  all_both Q (x ∷ xs) h k = ((h.0, k.0), all_both Q xs h.1 k.1)

-- each two elements of a list differ
abbrev pub Differ : {X : Type 0} → (X → X → Type 0) → List X → Type 0
Differ D [] = Unit {0}
Differ D (x ∷ xs) = AllByRecursion (D x) xs × Differ D xs

-- so each element differs from each later one
pairs_differ : {X : Type 0} (D : X → X → Type 0) (xs : List X) → Differ D xs → AllPairs D xs
pairs_differ D [] h i j d before below = absurd (omega arith)
pairs_differ D (x ∷ xs) h i zero d before below = absurd (omega arith)
pairs_differ D (x ∷ xs) h zero (suc j) d before below = All-from_recursion (D x) xs h.0 j d (omega arith)
pairs_differ D (x ∷ xs) h (suc i) (suc j) d before below = pairs_differ D xs h.1 i j d (omega arith) (omega arith)

-- keys that an order tells apart differ
pub differs : {K : Type 0} {R : K → K → Ordering} → IsTotalOrder R → (x y : K) → eq_by_cmp R x y ≡ false → x ≢ y
differs {R = R} o x y apart one = false_is_not_true (sym apart ∙ sym (ap (eq_by_cmp R x) one) ∙ (eq_by_cmp_equiv o).refl x)

-- an element of a list that differs from the first is in the rest of the list
behind_first : {X : Type 0} (x y : X) (xs : List X) → x ≢ y → Contains (x ∷ xs) y → Contains xs y
behind_first x y xs apart (zero, inside, is) = absurd (apart is)
behind_first x y xs apart (suc k, inside, is) = (k, omega arith, is)

module _ {X : Type 0} (ys : List X) (y : X) (there : Contains ys y) where
  -- the list without an element of it
  abbrev without : List X
  without = remove ys there.0

  -- with the element put in front, it is the list in another order
  taken_out : IsPermutation ys (y ∷ without)
  taken_out = IsPermutation-remove ys there.0 y there.1 (sym there.2)

  -- has one element less than the list
  one_less : suc (length without) ≡ length ys
  one_less = length_permutation ys (y ∷ without) taken_out

  -- and has all other elements of the list
  still_there : (z : X) → y ≢ z → Contains ys z → Contains without z
  still_there z apart inside = behind_first y z without apart (Contains-permutation ys (y ∷ without) z taken_out inside)

module _ {X Y : Type 0} (f : X → Y) where
  -- there are no more different elements of a list than elements
  pub no_more : (xs : List X) (ys : List Y) → Differ (λ x z. f x ≢ f z) xs → AllByRecursion (λ x. Contains ys (f x)) xs → length xs ≤ length ys
  no_more [] ys apart inside = omega arith
  no_more (x ∷ xs) ys apart inside =
      let left : List Y = without ys (f x) inside.0 in
      let rest : length xs ≤ length left =
      no_more xs left apart.1
      (all-weaken (λ z. (f x ≢ f z) × Contains ys (f z)) (λ z. Contains left (f z)) (λ z h. still_there ys (f x) inside.0 (f z) h.0 h.1) xs
      (all_both (λ z. f x ≢ f z) (λ z. Contains ys (f z)) xs apart.0 inside.1)) in
      let less_one : suc (length left) ≡ length ys = one_less ys (f x) inside.0 in
      omega arith

  -- and fewer if one element of the list is not among them
  fewer : (xs : List X) (ys : List Y) (y : Y) → Contains ys y → Differ (λ x z. f x ≢ f z) xs → AllByRecursion (λ x. Contains ys (f x)) xs → AllByRecursion (λ x. f x ≢ y) xs
      → length xs < length ys
  fewer xs ys y there apart inside missing =
      let left : List Y = without ys y there in
      let rest : length xs ≤ length left =
      no_more xs left apart
      (all-weaken (λ x. (f x ≢ y) × Contains ys (f x)) (λ x. Contains left (f x)) (λ x h. still_there ys y there (f x) (λ is. h.0 (sym is)) h.1) xs
      (all_both (λ x. f x ≢ y) (λ x. Contains ys (f x)) xs missing inside)) in
      let less_one : suc (length left) ≡ length ys = one_less ys y there in
      omega arith

module _ {K V : Type 0} {R : K → K → Ordering} (o : IsTotalOrder R) where
  -- if no key occurs twice, the key of each entry finds the entry's own value
  pub each_found : (es : List (K × V)) → NoneAlike (have_one_key R) es → AllByRecursion (λ e. find R e.0 es ≡ Some e.1) es
  each_found [] apart = tt
  each_found (e ∷ es) apart = (
    ap (λ b. cond b (Some e.1) (find R e.0 es)) ((eq_by_cmp_equiv o).refl e.0),
    all-weaken (λ f. (eq_by_cmp R e.0 f.0 ≡ false) × (find R f.0 es ≡ Some f.1)) (λ f. find R f.0 (e ∷ es) ≡ Some f.1)
        (λ f h. ap (λ b. cond b (Some e.1) (find R f.0 es)) ((eq_by_cmp_equiv o).symm f.0 e.0 ∙ h.0) ∙ h.1) es
        (all_both (λ f. eq_by_cmp R e.0 f.0 ≡ false) (λ f. find R f.0 es ≡ Some f.1) es apart.0 (each_found es apart.1)),
  )

-- the values that are made of the elements for which something is found
module _ {X Y Z : Type 0} (see : X → Option Z) (make : X → Z → Y) where
  -- if all that may be made has a property, each of them has it
  pub all_made : (P : Y → Type 0) (xs : List X) → AllByRecursion (λ x. (z : Z) → see x ≡ Some z → P (make x z)) xs → AllByRecursion P (filter_map (λ x. option_map (make x) (see x)) xs)
  all_made P [] h = tt
  all_made P (x ∷ xs) h =
      let rest : List Y = filter_map (λ y. option_map (make y) (see y)) xs in
      elim (see x) as (λ o. see x ≡ o → AllByRecursion P (cons_option (option_map (make x) o) rest)) [
        | None ↦ λ is. all_made P xs h.1
        | Some z ↦ λ is. (h.0 z is, all_made P xs h.1)
      ] refl

  -- if all that may be made differs, they differ
  made_differ : (D : Y → Y → Type 0) (E : X → X → Type 0) → ((x y : X) → E x y → (z w : Z) → D (make x z) (make y w)) → (xs : List X) → Differ E xs → Differ D (filter_map (λ x. option_map (make x) (see x)) xs)
  made_differ D E kept [] h = tt
  made_differ D E kept (x ∷ xs) h =
      let rest : List Y = filter_map (λ y. option_map (make y) (see y)) xs in
      elim (see x) as (λ o. Differ D (cons_option (option_map (make x) o) rest)) [
        | None ↦ made_differ D E kept xs h.1
        | Some z ↦ (
          all_made (D (make x z)) xs (all-weaken (E x) (λ y. (w : Z) → see y ≡ Some w → D (make x z) (make y w)) (λ y apart w is. kept x y apart z w) xs h.0),
          made_differ D E kept xs h.1,
        )
      ]

-- an account comes before the accounts of later parties
below_parties : (a : Account) (es : Table (List ℕ) PartyRegistration) → T (below_all bytes_cmp a.party es) → AllByRecursion (λ b. account_cmp a b ≡ Less) (flat_map (λ e. both_accounts e.0) es)
below_parties a [] below = tt
below_parties a (e ∷ es) below =
    let under : bytes_cmp a.party e.0 ≡ Less = less _ (first _ _ below) in
    (ap (λ o. ordering_then o (side_cmp a.side Production)) under, (ap (λ o. ordering_then o (side_cmp a.side Consumption)) under, below_parties a es (second _ _ below)))

-- so if parties rise, their accounts rise
pub parties_rise : (es : Table (List ℕ) PartyRegistration) → T (is_sorted bytes_cmp es) → IsStrictlySortedBy account_cmp (flat_map (λ e. both_accounts e.0) es)
unfolding IsStrictlySortedBy
parties_rise [] up = record {}
parties_rise (e ∷ es) up =
    let behind = first _ _ up in (
      (ap (λ o. ordering_then o Less) (tied_itself bytes_total e.0), below_parties (record { party = e.0; side = Production }) es behind),
      (below_parties (record { party = e.0; side = Consumption }) es behind, parties_rise es (second _ _ up)),
    )

-- there are at most two accounts of each party
pub two_each : (test : List ℕ × PartyRegistration → Bool) (es : Table (List ℕ) PartyRegistration) → length (flat_map (λ e. both_accounts e.0) (filter test es)) ≤ 2 * length es
two_each test [] = omega arith
two_each test (e ∷ es) =
    let rest = two_each test es in
    elim (test e) as (λ b. length (flat_map (λ x. both_accounts x.0) (cond b (e ∷ filter test es) (filter test es))) ≤ 2 * length (e ∷ es)) [ true ↦ omega arith | false ↦ omega arith ]

-- an account is one of the two of its party
pub one_of_both : (side : Side) (own party : List ℕ) (more : List Account) → party ≡ own → Contains (both_accounts party ++ more) (record { party = own; side = side })
one_of_both Production own party more is = (0, omega arith, λ i. record { party = is i; side = Production })
one_of_both Consumption own party more is = (1, omega arith, λ i. record { party = is i; side = Consumption })

-- a value is one value only
one_value : {A : Type 0} (x y : A) → Some x ≡ Some y → x ≡ y
one_value x y e = cc

-- an account is among those of the date if its party is found with a range that has the date
pub account_there : (date : ℕ) (es : Table (List ℕ) PartyRegistration) (a : Account) (p : PartyRegistration) → find bytes_cmp a.party es ≡ Some p → holds p.range date ≡ true
    → Contains (flat_map (λ e. both_accounts e.0) (filter (λ e. holds e.1.range date) es)) a
account_there date [] a p found held = cc
account_there date (e ∷ es) a p found held =
    let later : Table (List ℕ) PartyRegistration = filter (λ x. holds x.1.range date) es in
    elim (eq_by_cmp bytes_cmp a.party e.0) as (λ b. eq_by_cmp bytes_cmp a.party e.0 ≡ b → cond b (Some e.1) (find bytes_cmp a.party es) ≡ Some p
    → Contains (flat_map (λ x. both_accounts x.0) (cond (holds e.1.range date) (e ∷ later) later)) a) [
      | true ↦ λ same is.
          let kept : holds e.1.range date ≡ true = ap (λ (x : PartyRegistration). holds x.range date) (one_value e.1 p is) ∙ held in
          subst (λ b. Contains (flat_map (λ x. both_accounts x.0) (cond b (e ∷ later) later)) a) (sym kept)
          (one_of_both a.side a.party e.0 (flat_map (λ x. both_accounts x.0) later) (sym (exact_bytes a.party e.0 (equal (bytes_cmp a.party e.0) same))))
      | false ↦ λ other is.
          let there = account_there date es a p is held in
          elim (holds e.1.range date) as (λ b. Contains (flat_map (λ x. both_accounts x.0) (cond b (e ∷ later) later)) a) [
            | true ↦ Contains-append_right (both_accounts e.0) (flat_map (λ x. both_accounts x.0) later) a there
            | false ↦ there
          ]
    ] refl found

-- reallocations of the same unit in the same Settlement Period are to different accounts
accounts_differ : (key : UnitPeriod) (es : Table ReallocationKey Reallocation) → AllByRecursion (λ e. e.0.unit_period ≡ key) es → NoneAlike (have_one_key reallocation_key_cmp) es
    → Differ (λ s t. s.account ≢ t.account) (map {B = Subsidiary} (λ e. record { account = e.0.account; reallocation = e.1 }) es)
accounts_differ key [] own apart = tt
accounts_differ key (e ∷ es) own apart = (
  all-map (λ (s : Subsidiary). e.0.account ≢ s.account) (λ (f : ReallocationKey × Reallocation). record { account = f.0.account; reallocation = f.1 }) es
      (all-weaken (λ f. (f.0.unit_period ≡ key) × (eq_by_cmp reallocation_key_cmp e.0 f.0 ≡ false)) (λ f. e.0.account ≢ f.0.account)
      (λ f h one. differs reallocation_key_total e.0 f.0 h.1 (λ i. record { unit_period = (own.0 ∙ sym h.0) i; account = one i })) es
      (all_both (λ f. f.0.unit_period ≡ key) (λ f. eq_by_cmp reallocation_key_cmp e.0 f.0 ≡ false) es own.1 apart.0)),
  accounts_differ key es own.1 apart.1,
)

module _ (tables : Registered) (consistent : AreConsistent tables) (at : SettlementPeriod) where
  -- the accounts of the date
  abbrev accounts : List Account
  accounts = accounts_on tables at.date

  -- there are at most as many accounts as all parties can have
  few_accounts : length accounts ≤ 2 * most_parties
  few_accounts =
      let two : length accounts ≤ 2 * length tables.parties = two_each (λ e. holds e.1.range at.date) tables.parties in
      let most : length tables.parties ≤ most_parties = consistent.parties in
      omega arith

  -- an account whose party is effective on the date is among the accounts
  effective_there : (a : Account) → IsPartyEffective tables a.party at.date → Contains accounts a
  effective_there a effective = account_there at.date tables.parties a effective.registration effective.registered effective.holding

  -- a unit is registered as it is listed, and is effective on the date
  abbrev IsOfDate : List ℕ × UnitRegistration → Type 0
  IsOfDate e = (find bytes_cmp e.0 tables.units ≡ Some e.1) × (holds e.1.range at.date ≡ true)

  -- no unit is registered twice
  units_apart : NoneAlike (have_one_key bytes_cmp) tables.units
  units_apart = sorted_distinct bytes_cmp tables.units (from_true _ consistent.rising.units)

  -- this holds for each unit of the date
  all_of_date : AllByRecursion IsOfDate (units_on tables at.date)
  all_of_date = all_passing (λ e. find bytes_cmp e.0 tables.units ≡ Some e.1) (λ e. holds e.1.range at.date) tables.units (each_found bytes_total tables.units units_apart)

  module _ (e : List ℕ × UnitRegistration) (of_date : IsOfDate e) where
    -- the unit in the Settlement Period
    abbrev here : UnitPeriod
    here = record { unit = e.0; at = at }

    -- the account that leads it on the date
    abbrev lead_here : Account
    lead_here = lead_on tables e.0 e.1 at.date

    -- is among the accounts
    lead_there : Contains accounts lead_here
    lead_there =
        let led = consistent.leads e.0 at.date (record { registration = e.1; registered = of_date.0; holding = of_date.1 }) in
        subst (Contains accounts) (sym (ap (λ o. unwrap_or o e.1.lead) led.leads)) (effective_there led.lead led.party)

    -- a reallocation is in force, and it is of the unit in the Settlement Period
    abbrev IsInForce : ReallocationKey × Reallocation → Type 0
    IsInForce f = (find reallocation_key_cmp f.0 tables.reallocations ≡ Some f.1) × (eq_by_cmp unit_period_cmp f.0.unit_period here ≡ true)

    -- no reallocation is in force twice
    reallocations_apart : NoneAlike (have_one_key reallocation_key_cmp) tables.reallocations
    reallocations_apart = sorted_distinct reallocation_key_cmp tables.reallocations (from_true _ consistent.rising.reallocations)

    -- this holds for each reallocation that the unit is settled from
    all_in_force : AllByRecursion IsInForce (reallocations_at tables here)
    all_in_force =
        all_passing (λ f. find reallocation_key_cmp f.0 tables.reallocations ≡ Some f.1) (λ f. eq_by_cmp unit_period_cmp f.0.unit_period here) tables.reallocations
        (each_found reallocation_key_total tables.reallocations reallocations_apart)

    -- the key of such a reallocation has the unit and the Settlement Period
    its_own : (f : ReallocationKey × Reallocation) → IsInForce f → f.0.unit_period ≡ here
    its_own f in_force = exact_unit_periods f.0.unit_period here ((Equal-is (unit_period_cmp f.0.unit_period here)).0 in_force.1)

    -- if the account of each reallocation has a property, so has that of each subsidiary
    each_subsidiary : (P : Account → Type 0) → ((f : ReallocationKey × Reallocation) → IsInForce f → P f.0.account) → AllByRecursion (λ s. P s.account) (subsidiaries_of tables here)
    each_subsidiary P each =
        all-map (λ (s : Subsidiary). P s.account) (λ (f : ReallocationKey × Reallocation). record { account = f.0.account; reallocation = f.1 }) (reallocations_at tables here)
        (all-weaken IsInForce (λ f. P f.0.account) each (reallocations_at tables here) all_in_force)

    -- a subsidiary's account is among the accounts
    subsidiary_there : (f : ReallocationKey × Reallocation) → IsInForce f → Contains accounts f.0.account
    subsidiary_there f in_force =
        effective_there f.0.account
        (subst (λ (k : UnitPeriod). IsPartyEffective tables f.0.account.party k.at.date) (its_own f in_force) (consistent.reallocations f.0 (ap is_some in_force.0)).party)

    -- and isn't the lead account
    subsidiary_not_lead : (f : ReallocationKey × Reallocation) → IsInForce f → f.0.account ≢ lead_here
    subsidiary_not_lead f in_force one =
        let to_one = consistent.reallocations f.0 (ap is_some in_force.0) in
        let registered : to_one.unit.registration ≡ e.1 =
        one_value to_one.unit.registration e.1 (sym to_one.unit.registered ∙ ap (λ (k : UnitPeriod). find bytes_cmp k.unit tables.units) (its_own f in_force) ∙ of_date.0) in
        to_one.not_lead ((λ i. lead_on tables (its_own f in_force i).unit (registered i) (its_own f in_force i).at.date) ∙ sym one)

    -- the accounts of all subsidiaries are among the accounts
    all_there : AllByRecursion (λ s. Contains accounts s.account) (subsidiaries_of tables here)
    all_there = each_subsidiary (Contains accounts) subsidiary_there

    -- none is the lead account
    none_lead : AllByRecursion (λ s. s.account ≢ lead_here) (subsidiaries_of tables here)
    none_lead = each_subsidiary (λ a. a ≢ lead_here) subsidiary_not_lead

    -- and they differ
    subsidiaries_differ : Differ (λ s t. s.account ≢ t.account) (subsidiaries_of tables here)
    subsidiaries_differ =
        accounts_differ here (reallocations_at tables here)
        (all-weaken IsInForce (λ f. f.0.unit_period ≡ here) its_own (reallocations_at tables here) all_in_force)
        (distinct-filter (have_one_key reallocation_key_cmp) (λ f. eq_by_cmp unit_period_cmp f.0.unit_period here) tables.reallocations reallocations_apart)

    module _ (reading : Reading) where
      -- the unit's lead account and subsidiaries are among the accounts
      unit_named : IsUnitListed accounts (unit_with tables at e reading)
      unit_named = (lead_there, All-from_recursion (λ s. Contains accounts s.account) (subsidiaries_of tables here) all_there)

      -- its subsidiaries are few
      unit_few : HasFewSubsidiaries (unit_with tables at e reading)
      unit_few =
          let less_than_all : length (subsidiaries_of tables here) < length accounts =
          fewer (λ (s : Subsidiary). s.account) (subsidiaries_of tables here) accounts lead_here lead_there subsidiaries_differ all_there none_lead in
          let few : length accounts ≤ 2 * most_parties = few_accounts in
          omega arith

      -- it credits no account twice
      unit_credits_once : CreditsEachOnce (unit_with tables at e reading)
      unit_credits_once = (
        pairs_differ (λ s t. s.account ≢ t.account) (subsidiaries_of tables here) subsidiaries_differ,
        All-from_recursion (λ s. s.account ≢ lead_here) (subsidiaries_of tables here) none_lead,
      )

  -- the reading of a unit in the Settlement Period, if there is one
  abbrev its_reading : List ℕ × UnitRegistration → Option Reading
  its_reading e = reading_of tables (record { unit = e.0; at = at })

  -- if each unit of the date with a reading has a property, so has each unit that is settled
  each_unit : (P : UnitDataView → Type 0) → ((e : List ℕ × UnitRegistration) → IsOfDate e → (reading : Reading) → P (unit_with tables at e reading)) → All P (terms_at tables at).units
  each_unit P each =
      All-from_recursion P (terms_at tables at).units
      (all_made its_reading (unit_with tables at) P (units_on tables at.date)
      (all-weaken IsOfDate (λ e. (reading : Reading) → its_reading e ≡ Some reading → P (unit_with tables at e reading)) (λ e of_date reading is. each e of_date reading) (units_on tables at.date) all_of_date))

  -- if no key of a table occurs twice, no two entries have the same key
  keys_differ : (es : Table (List ℕ) UnitRegistration) → NoneAlike (have_one_key bytes_cmp) es → Differ (λ e f. e.0 ≢ f.0) es
  keys_differ [] apart = tt
  keys_differ (e ∷ es) apart =
      (all-weaken (λ f. eq_by_cmp bytes_cmp e.0 f.0 ≡ false) (λ f. e.0 ≢ f.0) (λ f. differs bytes_total e.0 f.0) es apart.0, keys_differ es apart.1)

  -- the units that are settled differ
  units_differ : Differ (λ u v. u.unit ≢ v.unit) (terms_at tables at).units
  units_differ =
      made_differ its_reading (unit_with tables at) (λ u v. u.unit ≢ v.unit) (λ e f. e.0 ≢ f.0) (λ e f apart reading other. apart) (units_on tables at.date)
      (keys_differ (units_on tables at.date) (distinct-filter (have_one_key bytes_cmp) (λ e. holds e.1.range at.date) tables.units units_apart))

  -- a contract is in force in the Settlement Period
  abbrev IsContractOf : ContractKey × ℤ → Type 0
  IsContractOf e = (find contract_key_cmp e.0 tables.contracts ≡ Some e.1) × (eq_by_cmp settlement_period_cmp e.0.at at ≡ true)

  -- its seller and buyer are among the accounts
  contract_there : (e : ContractKey × ℤ) → IsContractOf e → (c : Counterparties) → find bytes_cmp e.0.reference tables.references ≡ Some c → Contains accounts c.seller × Contains accounts c.buyer
  contract_there e is c fixed =
      let has = consistent.contracts e.0 (ap is_some is.0) in
      let one : has.counterparties ≡ c = one_value has.counterparties c (sym has.fixed ∙ fixed) in
      let same : e.0.at ≡ at = exact_settlement_periods e.0.at at ((Equal-is (settlement_period_cmp e.0.at at)).0 is.1) in
      subst (λ (k : Counterparties). Contains accounts k.seller × Contains accounts k.buyer) one (
        effective_there has.counterparties.seller (subst (λ (k : SettlementPeriod). IsPartyEffective tables has.counterparties.seller.party k.date) same has.seller),
        effective_there has.counterparties.buyer (subst (λ (k : SettlementPeriod). IsPartyEffective tables has.counterparties.buyer.party k.date) same has.buyer),
      )

  -- the row of a contract, with its seller and buyer
  abbrev row_with : ContractKey × ℤ → Counterparties → ContractRow
  row_with e c = record { key = e.0; contract = record { counterparties = c; volume = e.1 } }

  -- all sellers and buyers are among the accounts
  contracts_named : AreContractsReady accounts (terms_at tables at).contracts
  contracts_named =
      let es : Table ContractKey ℤ = filter (λ e. eq_by_cmp settlement_period_cmp e.0.at at) tables.contracts in
      All-from_recursion (IsContractListed accounts) (map (λ (r : ContractRow). r.contract) (rows_in_force tables at))
      (all-map (IsContractListed accounts) (λ (r : ContractRow). r.contract) (rows_in_force tables at)
      (all_made (λ (e : ContractKey × ℤ). find bytes_cmp e.0.reference tables.references) row_with (λ r. IsContractListed accounts r.contract) es
      (all-weaken IsContractOf (λ e. (c : Counterparties) → find bytes_cmp e.0.reference tables.references ≡ Some c → IsContractListed accounts (row_with e c).contract) contract_there es
      (all_passing (λ e. find contract_key_cmp e.0 tables.contracts ≡ Some e.1) (λ e. eq_by_cmp settlement_period_cmp e.0.at at) tables.contracts
      (each_found contract_key_total tables.contracts (sorted_distinct contract_key_cmp tables.contracts (from_true _ consistent.rising.contracts)))))))

  -- what the Settlement Period is settled from fits together
  pub terms_ready : AreTermsConsistent (terms_at tables at)
  terms_ready = record {
    ready = (
      parties_rise (filter (λ e. holds e.1.range at.date) tables.parties) (sorted-filter bytes_cmp (λ e. holds e.1.range at.date) tables.parties (from_true _ consistent.rising.parties)),
      (each_unit (IsUnitListed accounts) unit_named, contracts_named),
      each_unit HasFewSubsidiaries unit_few,
    );
    units = pairs_differ (λ u v. u.unit ≢ v.unit) (terms_at tables at).units units_differ;
    credits = each_unit CreditsEachOnce unit_credits_once;
  }

-- in each reached state, each Settlement Period may be settled
pub periods_ready : PeriodsReady
periods_ready midnight s at reached = terms_ready (registered_at midnight s) (reached_consistent midnight s reached) at

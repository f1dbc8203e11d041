-- The accounts of a period's rows are among the period's accounts.
use Rattle.std.proofs.Common.{◌≡◌, ◌≤◌, zero, suc, Bool, true, false, cond, List, [], ◌∷◌, length, map, refl, sym, ap, ◌∙◌, arith, Ordering}
use Rattle.std.specs.Prelude.{◌||◌, is_some}
use Rattle.std.specs.List.{All, Contains, flat_map, list_any}
use Rattle.std.specs.Cmp.{tied_itself}
use Rattle.std.specs.FinMap.{find, put}
use Rattle.std.specs.FinMap.Entries.{by_order, is_some-find}
use Rattle.std.specs.Ordering.{eq_by_cmp, is_eq}
use Rattle.std.specs.declared.cmp.Ordering.TheVariants.{Less, Equal, Greater}
use Rattle.std.proofs.lemmas.List.Elements.{All-cons, All-contains_itself, All-head, All-nil, All-tail, All-weaker, Contains-append_left, Contains-append_right}
use Rattle.hh_tables.specs.Tables.{in_key_order, latest, table_of_last}
use Rattle.hh_tables.proofs.TableLaws.{find-in_key_order, is_some-find-latest}
use Rattle.hh_names.specs.declared.account.Account.{Account}
use Rattle.hh_names.specs.Accounts.{account_cmp, bytes_cmp}
use Rattle.hh_names.proofs.AccountLaws.{account_total, exact_accounts}
use Rattle.hh_names.specs.declared.values.Contract.{Contract}
use Rattle.hh_calc.specs.Terms.{UnitDataView}
use Rattle.hh_texts.specs.declared.period_contracts.PeriodContractRow.{PeriodContractRow}
use Rattle.hh_texts.specs.declared.period_meters.PeriodMeterRow.{PeriodMeterRow}
use Rattle.hh_period.specs.Rows.{unit_data_entry, unit_data_of, in_account_order, in_force, named_accounts, period_accounts, period_contract_entry, seller_and_buyer}
use Rattle.hh_period.proofs.ContractFacts.{equal}

module _ {K V : Type 0} (R : K → K → Ordering) (P : V → Type 0) where
  -- what holds for all values holds for those of a table
  all-put : (k : K) (v : V) (es : List (K × V)) → P v → All P (map (λ e. e.1) es) → All P (map (λ e. e.1) (put R k v es))
  all-put k v [] p all = All-cons P v [] p (All-nil P)
  all-put k v (e ∷ es) p all = elim (R k e.0) as (λ o. All P (map (λ x. x.1) (by_order o ((k, v) ∷ e ∷ es) ((e.0, v) ∷ es) (e ∷ put R k v es)))) [
    | Less ↦ All-cons P v (e.1 ∷ map (λ x. x.1) es) p all
    | Equal ↦ All-cons P v (map (λ x. x.1) es) p (All-tail P e.1 (map (λ x. x.1) es) all)
    | Greater ↦ All-cons P e.1 (map (λ x. x.1) (put R k v es)) (All-head P e.1 (map (λ x. x.1) es) all) (all-put k v es p (All-tail P e.1 (map (λ x. x.1) es) all))
  ]

  all-in_key_order : (es : List (K × V)) → All P (map (λ e. e.1) es) → All P (map (λ e. e.1) (in_key_order R es))
  all-in_key_order [] all = all
  all-in_key_order (e ∷ es) all = all-put e.0 e.1 (in_key_order R es) (All-head P e.1 (map (λ x. x.1) es) all) (all-in_key_order es (All-tail P e.1 (map (λ x. x.1) es) all))

  all-latest : (es : List (K × V)) → All P (map (λ e. e.1) es) → All P (map (λ e. e.1) (latest R es))
  all-latest [] all = all
  all-latest (e ∷ es) all = elim (is_some (find R e.0 es)) as (λ b. All P (map (λ x. x.1) (cond b (latest R es) (e ∷ latest R es)))) [
    | true ↦ all-latest es (All-tail P e.1 (map (λ x. x.1) es) all)
    | false ↦ All-cons P e.1 (map (λ x. x.1) (latest R es)) (All-head P e.1 (map (λ x. x.1) es) all) (all-latest es (All-tail P e.1 (map (λ x. x.1) es) all))
  ]

  pub all-table : (es : List (K × V)) → All P (map (λ e. e.1) es) → All P (map (λ e. e.1) (table_of_last R es))
  all-table es all = all-in_key_order (latest R es) (all-latest es all)

-- membership by a test
tested : (xs : List Account) (a : Account) → Contains xs a → list_any (eq_by_cmp account_cmp a) xs ≡ true
tested [] a (k, inside, is) = absurd (omega arith)
tested (x ∷ xs) a (zero, inside, is) = go (ap (λ y. is_eq (account_cmp a y)) is ∙ ap is_eq (tied_itself account_total a))
  where
    go : eq_by_cmp account_cmp a x ≡ true → (eq_by_cmp account_cmp a x || list_any (eq_by_cmp account_cmp a) xs) ≡ true
    go h = rw h refl
tested (x ∷ xs) a (suc k, inside, is) = go (eq_by_cmp account_cmp a x) (tested xs a (k, omega arith, is))
  where
    go : (b : Bool) → list_any (eq_by_cmp account_cmp a) xs ≡ true → (b || list_any (eq_by_cmp account_cmp a) xs) ≡ true
    go true h = refl
    go false h = h

contained : (xs : List Account) (a : Account) → list_any (eq_by_cmp account_cmp a) xs ≡ true → Contains xs a
contained [] a h = cc h
contained (x ∷ xs) a h = go (eq_by_cmp account_cmp a x) refl h (contained xs a)
  where
    go : (b : Bool) → eq_by_cmp account_cmp a x ≡ b → (b || list_any (eq_by_cmp account_cmp a) xs) ≡ true → (list_any (eq_by_cmp account_cmp a) xs ≡ true → Contains xs a) → Contains (x ∷ xs) a
    go true e k more = (0, omega arith, sym (exact_accounts a x (equal (account_cmp a x) e)))
    go false e k more = let (i, inside, is) = more k in (suc i, omega arith, is)

-- an account that is named is among the accounts
pub among : (names : List Account) (a : Account) → Contains names a → Contains (in_account_order names) a
among names a h =
    let entries : List (Account × Account) = map (λ n. (n, n)) names in
    let named : is_some (find account_cmp a entries) ≡ true = is_some-find account_cmp a entries ∙ ap (list_any (eq_by_cmp account_cmp a)) (keys names) ∙ tested names a h in
    let kept : is_some (find account_cmp a (table_of_last account_cmp entries)) ≡ true =
    ap is_some (find-in_key_order account_total (latest account_cmp entries) a) ∙ is_some-find-latest account_total entries a ∙ named in
    contained (in_account_order names) a (sym (is_some-find account_cmp a (table_of_last account_cmp entries)) ∙ kept)
  where
    keys : (ns : List Account) → map (λ (e : Account × Account). e.0) (map (λ n. (n, n)) ns) ≡ ns
    keys [] = refl
    keys (n ∷ ns) = ap (λ more. n ∷ more) (keys ns)

-- the account of a row is named, and so are both counterparties of a contract row
named_by : {X : Type 0} (name : X → Account) (rows : List X) → All (λ a. Contains (map name rows) a) (map name rows)
named_by name rows = All-contains_itself (map name rows)

counterparties_named : (rows : List PeriodContractRow) → All (λ r. Contains (flat_map seller_and_buyer rows) r.contract.counterparties.seller × Contains (flat_map seller_and_buyer rows) r.contract.counterparties.buyer) rows
counterparties_named [] = All-nil _
counterparties_named (r ∷ rows) =
    let Named : PeriodContractRow → List Account → Type 0 = λ x names. Contains names x.contract.counterparties.seller × Contains names x.contract.counterparties.buyer in
    All-cons (λ x. Named x (flat_map seller_and_buyer (r ∷ rows))) r rows
    ((0, omega arith, refl), (1, omega arith, refl))
    (All-weaker (λ x. Named x (flat_map seller_and_buyer rows)) (λ x. Named x (flat_map seller_and_buyer (r ∷ rows)))
    (λ x h. (Contains-append_right (seller_and_buyer r) (flat_map seller_and_buyer rows) x.contract.counterparties.seller h.0, Contains-append_right (seller_and_buyer r) (flat_map seller_and_buyer rows) x.contract.counterparties.buyer h.1)) rows (counterparties_named rows))

all-values : {X K V : Type 0} (P : V → Type 0) (entry : X → K × V) (rows : List X) → All (λ x. P (entry x).1) rows → All P (map (λ e. e.1) (map entry rows))
all-values P entry [] all = All-nil P
all-values P entry (x ∷ rows) all =
    All-cons P (entry x).1 (map (λ e. e.1) (map entry rows)) (All-head (λ y. P (entry y).1) x rows all) (all-values P entry rows (All-tail (λ y. P (entry y).1) x rows all))

all-back : {X : Type 0} (name : X → Account) (P : Account → Type 0) (rows : List X) → All P (map name rows) → All (λ x. P (name x)) rows
all-back name P [] all = All-nil (λ x. P (name x))
all-back name P (x ∷ rows) all = All-cons (λ y. P (name y)) x rows (All-head P (name x) (map name rows) all) (all-back name P rows (All-tail P (name x) (map name rows) all))

-- each lead of a unit in force is among the accounts; so is each of its subsidiaries, as it has none
pub leads_among : (meters : List PeriodMeterRow) (contracts : List PeriodContractRow)
    → let accounts : List Account = period_accounts meters contracts in
    All (λ u. Contains accounts u.lead × All (λ s. Contains accounts s.account) u.subsidiaries) (in_force (map unit_data_entry meters))
leads_among meters contracts =
    let names : List Account = named_accounts meters contracts in
    let P : UnitDataView → Type 0 = λ u. Contains (in_account_order names) u.lead × All (λ s. Contains (in_account_order names) s.account) u.subsidiaries in
    all-table bytes_cmp P (map unit_data_entry meters)
    (all-values P unit_data_entry meters
    (All-weaker (λ r. Contains (in_account_order names) r.lead) (λ r. P (unit_data_of r)) (λ r h. (h, All-nil (λ s. Contains (in_account_order names) s.account))) meters
    (all-back (λ r. r.lead) (Contains (in_account_order names)) meters
    (All-weaker (Contains (map (λ r. r.lead) meters)) (Contains (in_account_order names))
    (λ a h. among names a (Contains-append_left (map (λ r. r.lead) meters) (flat_map seller_and_buyer contracts) a h))
    (map (λ r. r.lead) meters) (named_by (λ r. r.lead) meters)))))

-- a unit in force has no subsidiaries
pub subsidiaries_few : (meters : List PeriodMeterRow) → All (λ u. length u.subsidiaries ≤ 799) (in_force (map unit_data_entry meters))
subsidiaries_few meters =
    let P : UnitDataView → Type 0 = λ u. length u.subsidiaries ≤ 799 in all-table bytes_cmp P (map unit_data_entry meters) (all-values P unit_data_entry meters (λ k d inside. omega arith))

-- and so are seller and buyer of each contract in force
pub counterparties_among : (meters : List PeriodMeterRow) (contracts : List PeriodContractRow)
    → let accounts : List Account = period_accounts meters contracts in
    All (λ c. Contains accounts c.counterparties.seller × Contains accounts c.counterparties.buyer) (in_force (map period_contract_entry contracts))
counterparties_among meters contracts =
    let names : List Account = named_accounts meters contracts in
    let front : List Account = map (λ r. r.lead) meters in
    let back : List Account = flat_map seller_and_buyer contracts in
    let P : Contract → Type 0 = λ c. Contains (in_account_order names) c.counterparties.seller × Contains (in_account_order names) c.counterparties.buyer in
    all-table bytes_cmp P (map period_contract_entry contracts)
    (all-values P period_contract_entry contracts
    (All-weaker (λ r. Contains back r.contract.counterparties.seller × Contains back r.contract.counterparties.buyer) (λ r. P (period_contract_entry r).1)
    (λ r h. (among names r.contract.counterparties.seller (Contains-append_right front back r.contract.counterparties.seller h.0), among names r.contract.counterparties.buyer (Contains-append_right front back r.contract.counterparties.buyer h.1)))
    contracts (counterparties_named contracts)))

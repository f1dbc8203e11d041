-- The sums of accounts, as amounts are added to them.
use Rattle.std.proofs.Common.{◌≡◌, ℕ, zero, suc, ◌+◌, ◌<◌, ◌≤◌, Bool, true, false, cond, List, [], ◌∷◌, length, get_or, set, take, map, refl, sym, ap, subst, ◌∙◌, arith}
use Rattle.std.specs.Prelude.{ℤ, pos, neg_ℤ, ◌+ℤ◌, ◌*ℤ◌, unsigned_abs, sum_by}
use Rattle.std.specs.List.{AllByRecursion, HoldsAt, All, zip}
use Rattle.std.specs.List.Sorted.{IsStrictlySortedBy}
use Rattle.std.specs.Ordering.{is_eq, ordering_reverse}
use Rattle.std.specs.declared.cmp.Ordering.TheVariants.{Less, Equal, Greater}
use Rattle.std.specs.Cmp.{tied_itself}
use Rattle.std.proofs.Math.IntN.{+ℤ_idr, +ℤ_assoc}
use Rattle.std.proofs.lemmas.List.{length-map, take_more}
use Rattle.std.proofs.lemmas.List.Elements.{All-from_recursion, All-weaker}
use Rattle.std.proofs.lemmas.List.Sums.{sum_by-append, sum_by-cons}
use Rattle.std.proofs.lemmas.Slice.Zip.{firsts-zip, get_or-zip}
use Rattle.hh_share.specs.Totals.{total}
use Rattle.hh_share.proofs.TotalLaws.{total-append}
use Rattle.hh_names.specs.declared.account.Account.{Account}
use Rattle.hh_names.specs.declared.values.Contract.{Contract}
use Rattle.hh_names.specs.Accounts.{account_cmp, is_same_account}
use Rattle.hh_names.proofs.AccountLaws.{account_total}
use Rattle.hh_calc.specs.declared.result.CreditRow.{CreditRow}
use Rattle.hh_calc.specs.declared.sums.AccountSums.{AccountSums}
use Rattle.hh_calc.specs.Formulas.{contracted, credited_of, net_entry_of, net_of, if_same_account, ticks_per_kwh, weight_of}
use Rattle.hh_calc.specs.steps.Sums.{contract_amounts, credit_amounts, sums_plus, with_amounts, with_contract, with_contracts, with_credits, with_nets, AreChanged, AreGrown, IsWithin}

-- amounts of another account do not count
apart : (a to : Account) (x held : AccountSums) → is_same_account to a ≡ false → held ≡ with_amounts to x a held
apart a to x held other =
    let w : held.weight ≡ held.weight + 0 = omega arith in
    λ i. record {
      credited = (sym (+ℤ_idr held.credited) ∙ ap (λ t. held.credited +ℤ cond t x.credited (pos 0)) (sym other)) i;
      balancing = (sym (+ℤ_idr held.balancing) ∙ ap (λ t. held.balancing +ℤ cond t x.balancing (pos 0)) (sym other)) i;
      contracts = (sym (+ℤ_idr held.contracts) ∙ ap (λ t. held.contracts +ℤ cond t x.contracts (pos 0)) (sym other)) i;
      weight = (w ∙ ap (λ t. held.weight + cond t x.weight 0) (sym other)) i;
    }

-- amounts of the account itself count
own : (a to : Account) (x held : AccountSums) → is_same_account to a ≡ true → sums_plus held x ≡ with_amounts to x a held
own a to x held same = λ i. record {
  credited = held.credited +ℤ cond (sym same i) x.credited (pos 0);
  balancing = held.balancing +ℤ cond (sym same i) x.balancing (pos 0);
  contracts = held.contracts +ℤ cond (sym same i) x.contracts (pos 0);
  weight = held.weight + cond (sym same i) x.weight 0;
}

-- amounts of an account that comes before all others do not count for them
none_before : (accounts : List Account) (to : Account) → AllByRecursion (λ a. account_cmp to a ≡ Less) accounts
    → (f : Account → AccountSums) (x : AccountSums) → map f accounts ≡ map (λ a. with_amounts to x a (f a)) accounts
none_before [] to later f x = refl
none_before (a ∷ accounts) to later f x = λ i. apart a to x (f a) (ap is_eq later.0) i ∷ none_before accounts to later.1 f x i

-- amounts added at an account's place count only for that account
pub added_once : (accounts : List Account) → IsStrictlySortedBy account_cmp accounts
    → (place : ℕ) (to : Account) → place < length accounts → HoldsAt (λ a. a ≡ to) accounts place
    → (f : Account → AccountSums) (x d : AccountSums)
    → set (map f accounts) place (sums_plus (get_or (map f accounts) place d) x) ≡ map (λ a. with_amounts to x a (f a)) accounts
unfolding IsStrictlySortedBy
added_once [] up place to inside is f x d = absurd (omega arith)
added_once (a ∷ accounts) up zero to inside is f x d =
    let same : a ≡ to = is a in
    let tied : account_cmp to a ≡ Equal = ap (λ c. account_cmp to c) same ∙ tied_itself account_total to in
    let later : AllByRecursion (λ c. account_cmp to c ≡ Less) accounts = subst (λ c. AllByRecursion (λ y. account_cmp c y ≡ Less) accounts) same up.0 in
    λ i. own a to x (f a) (ap is_eq tied) i ∷ none_before accounts to later f x i
added_once (a ∷ accounts) up (suc place) to inside is f x d =
    let below : account_cmp a to ≡ Less = ap (account_cmp a) (sym (is to)) ∙ All-from_recursion (λ c. account_cmp a c ≡ Less) accounts up.0 place to (omega arith) in
    let above : account_cmp to a ≡ Greater = account_total.antisymm to a ∙ ap ordering_reverse below in
    λ i. apart a to x (f a) (ap is_eq above) i ∷ added_once accounts up.1 place to (omega arith) is f x d i

-- two changes, one after the other
pub changed_on : (accounts : List Account) (first second both : Account → AccountSums → AccountSums) → ((a : Account) (s : AccountSums) → second a (first a s) ≡ both a s)
    → (start old new : List AccountSums) → AreChanged accounts first start old → AreChanged accounts second old new → AreChanged accounts both start new
changed_on accounts first second both same start old new h k = λ had e. k (λ a. first a (had a)) (h had e) ∙ (λ i. map (λ a. same a (had a) i) accounts)

-- no change
pub unchanged : (accounts : List Account) (change : Account → AccountSums → AccountSums) → ((a : Account) (s : AccountSums) → s ≡ change a s)
    → (sums : List AccountSums) → AreChanged accounts change sums sums
unchanged accounts change same sums = λ had e. e ∙ (λ i. map (λ a. same a (had a) i) accounts)

-- two growths, one after the other
pub grown_on : (n m k : ℕ) → k ≡ n + m → (start old new : List AccountSums) → AreGrown n start old → AreGrown m old new → AreGrown k start new
grown_on n m k same start old new h g = λ most small.
    let e : (most + n) + m ≡ most + k = omega arith in
    subst (λ b. All (IsWithin b) new) e (g (most + n) (h most small))

pub within_more : (n m : ℕ) (s : AccountSums) → n ≤ m → IsWithin n s → IsWithin m s
within_more n m s le h =
    let a : unsigned_abs s.credited ≤ n = h.credited in
    let b : unsigned_abs s.balancing ≤ n = h.balancing in
    let c : unsigned_abs s.contracts ≤ n = h.contracts in
    let d : s.weight ≤ n = h.weight in
    record { credited = omega arith; balancing = omega arith; contracts = omega arith; weight = omega arith }

pub all_within : (n m : ℕ) (sums : List AccountSums) → n ≤ m → All (IsWithin n) sums → All (IsWithin m) sums
all_within n m sums le small = All-weaker (IsWithin n) (IsWithin m) (λ s. within_more n m s le) sums small

-- no growth
pub not_grown : (n : ℕ) (sums : List AccountSums) → AreGrown n sums sums
not_grown n sums = λ most small. all_within most (most + n) sums (omega arith) small

pub total-more : {X : Type 0} (f : X → ℤ) (rows : List X) (i : ℕ) (row : X) → i < length rows → row ≡ get_or rows i row
    → total f (take (i + 1) rows) ≡ total f (take i rows) +ℤ f row
total-more f rows i row inside is =
    ap (total f) (take_more rows i row inside)
    ∙ total-append f (take i rows) (get_or rows i row ∷ [])
    ∙ ap (λ z. total f (take i rows) +ℤ z) (+ℤ_idr (f (get_or rows i row)) ∙ ap f (sym is))

sum_by-more : {X : Type 0} (f : X → ℕ) (rows : List X) (i : ℕ) (row : X) → i < length rows → row ≡ get_or rows i row
    → sum_by f (take (i + 1) rows) ≡ sum_by f (take i rows) + f row
sum_by-more f rows i row inside is =
    ap (sum_by f) (take_more rows i row inside)
    ∙ sum_by-append f (take i rows) (get_or rows i row ∷ [])
    ∙ ap (λ n. sum_by f (take i rows) + n) (sum_by-cons f (get_or rows i row) [] ∙ alone (f (get_or rows i row)) ∙ ap f (sym is))
  where
    alone : (n : ℕ) → n + 0 ≡ n
    alone n = omega arith

-- an amount of 0 adds nothing
pub of_none : (a to : Account) → if_same_account a to (pos 0) ≡ pos 0
of_none a to = elim (is_same_account to a) as (λ t. cond t (pos 0) (pos 0) ≡ pos 0) [ true ↦ refl | false ↦ refl ]

pub none_more : (a to : Account) (z : ℤ) → z +ℤ if_same_account a to (pos 0) ≡ z
none_more a to z = ap (λ y. z +ℤ y) (of_none a to) ∙ +ℤ_idr z

pub weight_of_none : (a to : Account) (n : ℕ) → n + cond (is_same_account to a) 0 0 ≡ n
weight_of_none a to n = elim (is_same_account to a) as (λ t. n + cond t 0 0 ≡ n) [ true ↦ omega arith | false ↦ omega arith ]

one_more : (x s d t : ℤ) → t ≡ s +ℤ d → (x +ℤ s) +ℤ d ≡ x +ℤ t
one_more x s d t e = +ℤ_assoc x s d ∙ ap (λ z. x +ℤ z) (sym e)

-- no credits
pub no_credits : (weighs : Bool) (a : Account) (s : AccountSums) → s ≡ with_credits weighs [] a s
no_credits weighs a s = λ j. record { credited = sym (+ℤ_idr s.credited) j; balancing = s.balancing; contracts = s.contracts; weight = nothing weighs j }
  where
    nothing : (b : Bool) → s.weight ≡ s.weight + cond b (sum_by (weight_of a) []) 0
    nothing true = omega arith
    nothing false = omega arith

-- no contracts
pub no_contracts : (a : Account) (s : AccountSums) → s ≡ with_contracts [] a s
no_contracts a s = λ j. record { credited = s.credited; balancing = s.balancing; contracts = sym (+ℤ_idr s.contracts) j; weight = s.weight }

-- One more credit.
module _ (weighs : Bool) (credits : List CreditRow) (i : ℕ) (credit : CreditRow) (inside : i < length credits) (is : credit ≡ get_or credits i credit) where
  weight_step : (a : Account) (n : ℕ) → (n + cond weighs (sum_by (weight_of a) (take i credits)) 0) + cond (is_same_account credit.account a) (cond weighs (unsigned_abs credit.credited) 0) 0
      ≡ n + cond weighs (sum_by (weight_of a) (take (i + 1) credits)) 0
  weight_step a n =
      elim weighs as (λ b. (n + cond b (sum_by (weight_of a) (take i credits)) 0) + cond (is_same_account credit.account a) (cond b (unsigned_abs credit.credited) 0) 0 ≡ n + cond b (sum_by (weight_of a) (take (i + 1) credits)) 0) [
        | true ↦ (let e : sum_by (weight_of a) (take (i + 1) credits) ≡ sum_by (weight_of a) (take i credits) + cond (is_same_account credit.account a) (unsigned_abs credit.credited) 0 = sum_by-more (weight_of a) credits i credit inside is in omega arith)
        | false ↦ weight_of_none a credit.account (n + 0)
      ]

  pub credit_step : (a : Account) (s : AccountSums) → with_amounts credit.account (credit_amounts weighs credit.credited) a (with_credits weighs (take i credits) a s) ≡ with_credits weighs (take (i + 1) credits) a s
  credit_step a s = λ j. record {
    credited = one_more s.credited (total (credited_of a) (take i credits)) (credited_of a credit) _ (total-more (credited_of a) credits i credit inside is) j;
    balancing = none_more a credit.account s.balancing j;
    contracts = none_more a credit.account s.contracts j;
    weight = weight_step a s.weight j;
  }

-- One more contract.
pub contract_step : (contracts : List Contract) (i : ℕ) (contract : Contract) → i < length contracts → contract ≡ get_or contracts i contract
    → (a : Account) (s : AccountSums) → with_contract contract a (with_contracts (take i contracts) a s) ≡ with_contracts (take (i + 1) contracts) a s
contract_step contracts i contract inside is a s = λ j. record {
  credited = s.credited;
  balancing = s.balancing;
  contracts = one_more s.contracts (total (net_of a) (take i contracts)) (net_of a contract) _ (total-more (net_of a) contracts i contract inside is) j;
  weight = s.weight;
}

-- a contract is added to its seller's sums and taken from its buyer's
pub sold_and_bought : (c : Contract) (a : Account) (s : AccountSums)
    → with_amounts c.counterparties.buyer (contract_amounts (neg_ℤ (contracted c))) a (with_amounts c.counterparties.seller (contract_amounts (contracted c)) a s) ≡ with_contract c a s
sold_and_bought c a s =
    let seller : Account = c.counterparties.seller in
    let buyer : Account = c.counterparties.buyer in
    λ j. record {
      credited = (none_more a buyer (s.credited +ℤ if_same_account a seller (pos 0)) ∙ none_more a seller s.credited) j;
      balancing = (none_more a buyer (s.balancing +ℤ if_same_account a seller (pos 0)) ∙ none_more a seller s.balancing) j;
      contracts = one_more s.contracts (if_same_account a seller (contracted c)) (if_same_account a buyer (neg_ℤ (contracted c))) _ (ap (λ z. if_same_account a seller (contracted c) +ℤ z) (sym (against (contracted c)))) j;
      weight = (weight_of_none a buyer (s.weight + cond (is_same_account seller a) 0 0) ∙ weight_of_none a seller s.weight) j;
    }
  where
    against : (x : ℤ) → if_same_account a c.counterparties.buyer (neg_ℤ x) ≡ neg_ℤ (if_same_account a c.counterparties.buyer x)
    against x = elim (is_same_account c.counterparties.buyer a) as (λ t. cond t (neg_ℤ x) (pos 0) ≡ neg_ℤ (cond t x (pos 0))) [ true ↦ refl | false ↦ refl ]

-- no net volumes
pub no_nets : (a : Account) (s : AccountSums) → s ≡ with_nets [] a s
no_nets a s = λ j. record { credited = s.credited; balancing = s.balancing; contracts = sym (+ℤ_idr s.contracts) j; weight = s.weight }

-- a list paired with another of its length is as long
pub length-beside : {A B : Type 0} (ks : List A) (vs : List B) → length vs ≡ length ks → length (zip ks vs) ≡ length ks
length-beside {A} {B} ks vs e = sym (length-map (zip ks vs) (λ (p : A × B). p.0)) ∙ ap length (firsts-zip ks vs e)

-- One more net volume.
module _ (accounts : List Account) (nets : List ℤ) (own : length nets ≡ length accounts) (i : ℕ) (account : Account) (kwh : ℤ)
    (inside : i < length accounts) (is : account ≡ get_or accounts i account) (is_net : kwh ≡ get_or nets i kwh) where
  pub net_step : (a : Account) (s : AccountSums) → with_amounts account (contract_amounts (kwh *ℤ ticks_per_kwh)) a (with_nets (take i (zip accounts nets)) a s)
      ≡ with_nets (take (i + 1) (zip accounts nets)) a s
  net_step a s =
      let entries : List (Account × ℤ) = zip accounts nets in
      let entry : Account × ℤ = (account, kwh) in
      let among : i < length entries = rw (length-beside accounts nets own) inside in
      let stands : entry ≡ get_or entries i entry = (λ j. (is j, is_net j)) ∙ sym (get_or-zip accounts nets i entry inside (omega arith)) in
      λ j. record {
        credited = none_more a account s.credited j;
        balancing = none_more a account s.balancing j;
        contracts = one_more s.contracts (total (net_entry_of a) (take i entries)) (net_entry_of a entry) _ (total-more (net_entry_of a) entries i entry among stands) j;
        weight = weight_of_none a account s.weight j;
      }

-- if all rows have a property, the row that is read has it
pub all_read : {X : Type 0} (P : X → Type 0) (rows : List X) (i : ℕ) (row : X) → All P rows → i < length rows → row ≡ get_or rows i row → P row
all_read P rows i row all inside is = subst P (sym is) (all i row inside)

-- What accounts sell less what they buy: its sum over all accounts is zero, and rows and net volumes give the same.
use Rattle.std.proofs.Common.{◌≡◌, ℕ, zero, suc, ◌<◌, Bool, true, false, cond, List, [], ◌∷◌, length, get_or, map, refl, sym, ap, subst, ◌∙◌, arith, inl, inr}
use Rattle.std.specs.Prelude.{◌≢◌, ℤ, pos, neg_ℤ, ◌+ℤ◌, ◌-ℤ◌, ◌*ℤ◌, ◌&&◌, nat_le, All, Contains}
use Rattle.std.specs.List.{list_all, zip}
use Rattle.std.specs.Ordering.{is_eq, ordering_reverse}
use Rattle.std.specs.Cmp.{tied_itself}
use Rattle.std.proofs.Math.IntN.{+ℤ_invr, zero-*ℤ}
use Rattle.std.proofs.lemmas.Bool.{cases_lt}
use Rattle.std.proofs.lemmas.Int.{ints}
use Rattle.std.proofs.lemmas.List.{length-map}
use Rattle.std.proofs.lemmas.List.Folds.{list_all-map}
use Rattle.std.proofs.lemmas.Slice.Zip.{get_or-zip, seconds-zip}
use Rattle.hh_share.specs.Totals.{total}
use Rattle.hh_share.proofs.TotalLaws.{total-map, total-neg, total-plus, total-same, total-swap}
use Rattle.hh_names.specs.declared.account.Account.{Account}
use Rattle.hh_names.specs.declared.values.Contract.{Contract}
use Rattle.hh_names.specs.Accounts.{account_cmp, is_same_account}
use Rattle.hh_names.proofs.AccountLaws.{account_total}
use Rattle.hh_calc.specs.declared.result.Figures.{Figures}
use Rattle.hh_calc.specs.declared.sums.AccountSums.{AccountSums}
use Rattle.hh_calc.specs.Formulas.{all_figures, contracted, figures, figures_from, net_by, net_entry_of, net_kwh, net_of, netted, netted_contracts, if_same_account, period_sums, residual, net_kwh_of, ticks_per_kwh}
use Rattle.hh_calc.specs.Limits.{are_all_within, are_within, greatest_cash, greatest_energy, is_account_within, is_at_most, is_within_limits}
use Rattle.hh_calc.specs.Ready.{AreAccountsInOrder, AreContractsReady, AreInOrder, AreNetsReady, IsContractListed, IsNetVolume, IsReady}
use Rattle.hh_calc.specs.Terms.{ContractTerms, Net, PeriodDataView, Rows}
use Rattle.hh_calc.proofs.OrderLaws.{rises}
use Rattle.hh_calc.proofs.SpreadLaws.{counts_once}
use Rattle.hh_calc.proofs.SumLaws.{length-beside}

-- a sum of kWh, in ticks
total-ticks : {X : Type 0} (f : X → ℤ) (xs : List X) → total (λ x. f x *ℤ ticks_per_kwh) xs ≡ total f xs *ℤ ticks_per_kwh
total-ticks f [] = refl
total-ticks f (x ∷ xs) = ap (λ z. (f x *ℤ ticks_per_kwh) +ℤ z) (total-ticks f xs) ∙ both (f x) (total f xs)
  where
    both : (a b : ℤ) → (a *ℤ ticks_per_kwh) +ℤ (b *ℤ ticks_per_kwh) ≡ (a +ℤ b) *ℤ ticks_per_kwh
    both a b = omega (arith, ints)

-- reading inside a list does not depend on the default for reading past its end
get_or-default : {X : Type 0} (xs : List X) (k : ℕ) (d e : X) → k < length xs → get_or xs k d ≡ get_or xs k e
get_or-default [] k d e inside = absurd (omega arith)
get_or-default (x ∷ xs) zero d e inside = refl
get_or-default (x ∷ xs) (suc k) d e inside = get_or-default xs k d e (omega arith)

-- lists are equal if their elements at each place are
map-alike : {X Y : Type 0} (f g : X → Y) (xs : List X) → ((k : ℕ) (d : X) → k < length xs → f (get_or xs k d) ≡ g (get_or xs k d)) → map f xs ≡ map g xs
map-alike f g [] alike = refl
map-alike f g (x ∷ xs) alike = λ i. alike 0 x (omega arith) i ∷ map-alike f g xs (λ k d lt. alike (suc k) d (omega arith)) i

-- a contract's amount for an account is the same in ticks as in kWh
net_ticks : (a : Account) (c : Contract) → net_kwh_of a c *ℤ ticks_per_kwh ≡ net_of a c
net_ticks a c = by (is_same_account c.counterparties.seller a) (is_same_account c.counterparties.buyer a)
  where
    by : (s b : Bool) → (cond s c.volume (pos 0) -ℤ cond b c.volume (pos 0)) *ℤ ticks_per_kwh ≡ cond s (contracted c) (pos 0) -ℤ cond b (contracted c) (pos 0)
    by true true = omega (arith, ints)
    by true false = omega (arith, ints)
    by false true = omega (arith, ints)
    by false false = omega (arith, ints)

module _ (accounts : List Account) (up : AreAccountsInOrder accounts) where
  -- no other place has the account
  others_differ : (d : Account) (k j : ℕ) → k < length accounts → j < length accounts → j ≢ k
      → is_same_account (get_or accounts k d) (get_or accounts j d) ≡ false
  others_differ d k j inside among ne = elim (cases_lt k j) [
    | inl lt ↦ ap is_eq (rises account_cmp accounts up k j d lt among)
    | inr le ↦ ap is_eq (
        account_total.antisymm (get_or accounts k d) (get_or accounts j d)
        ∙ ap ordering_reverse (rises account_cmp accounts up j k d (omega arith) inside))
  ]

  -- an amount of a named account counts once over the accounts
  spread : (b : Account) → Contains accounts b → (amount : ℤ) → total (λ a. if_same_account a b amount) accounts ≡ amount
  spread b (k, inside, is) amount =
      counts_once (is_same_account b) (λ a. amount) accounts b k inside
      (ap is_eq (ap (account_cmp b) is ∙ tied_itself account_total b))
      (λ j among ne. ap (λ c. is_same_account c (get_or accounts j b)) (sym is) ∙ others_differ b k j inside among ne)

  -- if each account has an amount, only that of one account counts for it
  own : (f : Account → ℤ) (k : ℕ) (d : Account) → k < length accounts
      → total (λ b. if_same_account (get_or accounts k d) b (f b)) accounts ≡ f (get_or accounts k d)
  own f k d inside =
      counts_once (λ b. is_same_account b (get_or accounts k d)) f accounts d k inside (ap is_eq (tied_itself account_total (get_or accounts k d)))
      (λ j among ne. others_differ d j k among inside (λ e. ne (sym e)))

  -- the seller's amount of a contract and the buyer's sum to zero
  one_contract : (amount : Contract → ℤ) (c : Contract) → IsContractListed accounts c
      → total (λ a. if_same_account a c.counterparties.seller (amount c) -ℤ if_same_account a c.counterparties.buyer (amount c)) accounts ≡ pos 0
  one_contract amount c (sells, buys) =
      total-plus (λ a. if_same_account a c.counterparties.seller (amount c)) (λ a. neg_ℤ (if_same_account a c.counterparties.buyer (amount c))) accounts
      ∙ (λ i. spread c.counterparties.seller sells (amount c) i +ℤ total-neg (λ a. if_same_account a c.counterparties.buyer (amount c)) accounts i)
      ∙ ap (λ z. amount c +ℤ neg_ℤ z) (spread c.counterparties.buyer buys (amount c))
      ∙ +ℤ_invr (amount c)

  -- so all contracts together sum to zero over the accounts
  all_contracts : (amount : Contract → ℤ) (cs : List Contract) → All (IsContractListed accounts) cs
      → total (λ c. total (λ a. if_same_account a c.counterparties.seller (amount c) -ℤ if_same_account a c.counterparties.buyer (amount c)) accounts) cs ≡ pos 0
  all_contracts amount [] named = refl
  all_contracts amount (c ∷ cs) named = λ i. one_contract amount c (named 0 c (omega arith)) i +ℤ all_contracts amount cs (λ k d lt. named (suc k) d (omega arith)) i

  -- net volumes of these accounts count once each
  all_entries : (es : List (Account × ℤ)) → All (λ e. Contains accounts e.0) es → total (λ e. total (λ a. net_entry_of a e) accounts) es ≡ total (λ e. e.1 *ℤ ticks_per_kwh) es
  all_entries [] named = refl
  all_entries (e ∷ es) named = λ i. spread e.0 (named 0 e (omega arith)) (e.1 *ℤ ticks_per_kwh) i +ℤ all_entries es (λ k d lt. named (suc k) d (omega arith)) i

  -- the accounts of net volumes are these
  entries_named : (nets : List ℤ) → length nets ≡ length accounts → All (λ e. Contains accounts e.0) (zip accounts nets)
  entries_named nets each k d lt =
      let inside : k < length accounts = rw (sym (length-beside accounts nets each)) lt in
      let e : Account × ℤ = get_or (zip accounts nets) k d in
      let stands : e ≡ (get_or accounts k d.0, get_or nets k d.1) = get_or-zip accounts nets k d inside (omega arith) in
      (k, inside, get_or-default accounts k e.0 d.0 inside ∙ sym (ap (λ (x : Account × ℤ). x.0) stands))

  -- so the accounts' net contracts sum to zero
  pub contracts_sum : (contracts : ContractTerms) → AreContractsReady accounts contracts → total (net_by accounts contracts) accounts ≡ pos 0
  contracts_sum (Rows rows) named = total-swap net_of accounts rows ∙ all_contracts contracted rows named
  contracts_sum (Net nets) ready =
      total-swap net_entry_of accounts (zip accounts nets)
      ∙ all_entries (zip accounts nets) (entries_named nets ready.each)
      ∙ total-ticks (λ e. e.1) (zip accounts nets)
      ∙ ap (λ z. z *ℤ ticks_per_kwh) (sym (total-map (λ kwh. kwh) (λ (e : Account × ℤ). e.1) (zip accounts nets)) ∙ ap (total (λ kwh. kwh)) (seconds-zip accounts nets ready.each) ∙ ready.even)
      ∙ zero-*ℤ ticks_per_kwh

  -- the accounts' net volumes by rows sum to zero
  pub nets_sum : (rows : List Contract) → All (IsContractListed accounts) rows → total (net_kwh rows) accounts ≡ pos 0
  nets_sum rows named = total-swap net_kwh_of accounts rows ∙ all_contracts (λ c. c.volume) rows named

  -- an account has the same net contracts by rows as by net volumes
  nets_alike : (contracts : ContractTerms) (k : ℕ) (d : Account) → k < length accounts
      → net_by accounts (netted_contracts accounts contracts) (get_or accounts k d) ≡ net_by accounts contracts (get_or accounts k d)
  nets_alike (Net nets) k d inside = refl
  nets_alike (Rows rows) k d inside =
      let a : Account = get_or accounts k d in
      ap (total (net_entry_of a)) (zip-map (net_kwh rows) accounts)
      ∙ total-map (net_entry_of a) (λ b. (b, net_kwh rows b)) accounts
      ∙ own (λ b. net_kwh rows b *ℤ ticks_per_kwh) k d inside
      ∙ sym (total-ticks (net_kwh_of a) rows)
      ∙ total-same (λ c. net_kwh_of a c *ℤ ticks_per_kwh) (net_of a) rows (net_ticks a)
    where
      zip-map : {X Y : Type 0} (f : X → Y) (xs : List X) → zip xs (map f xs) ≡ map (λ x. (x, f x)) xs
      zip-map f [] = refl
      zip-map f (x ∷ xs) = ap (λ l. (x, f x) ∷ l) (zip-map f xs)

module _ (p : PeriodDataView) (up : AreInOrder p) where
  sums_alike : (k : ℕ) (d : Account) → k < length p.accounts → period_sums (netted p) (get_or p.accounts k d) ≡ period_sums p (get_or p.accounts k d)
  sums_alike k d inside = λ i. record (period_sums p (get_or p.accounts k d)) { contracts = nets_alike p.accounts up p.contracts k d inside i }

  -- a period has the same figures by rows as by net volumes
  pub figures_alike : all_figures (netted p) ≡ all_figures p
  figures_alike = map-alike (figures (netted p)) (figures p) p.accounts (λ k d inside i. figures_with (get_or p.accounts k d) (sums_alike k d inside i))
    where
      figures_with : Account → AccountSums → Figures
      figures_with a sums = figures_from a sums p.price

  -- and the same residual
  pub residual_alike : residual (netted p) ≡ residual p
  residual_alike =
      ap neg_ℤ (sym (total-map (λ (f : Figures). f.charge) (figures (netted p)) p.accounts) ∙ ap (total (λ (f : Figures). f.charge)) figures_alike
      ∙ total-map (λ (f : Figures). f.charge) (figures p) p.accounts)

  -- and the same limits hold
  pub limits_alike : is_within_limits (netted p) ≡ is_within_limits p
  limits_alike = λ i. all_within_alike i && is_at_most greatest_cash (residual_alike i)
    where
      all_within_alike : are_all_within (netted p) ≡ are_all_within p
      all_within_alike =
          sym (list_all-map (λ b. b) (is_account_within (netted p)) p.accounts)
          ∙ ap (list_all (λ b. b)) (map-alike (is_account_within (netted p)) (is_account_within p) p.accounts
          (λ k d inside i. are_within (figures_from (get_or p.accounts k d) (sums_alike k d inside i) p.price) && nat_le (sums_alike k d inside i).weight greatest_energy))
          ∙ list_all-map (λ b. b) (is_account_within p) p.accounts

-- the net volumes of rows may be settled, if each is in its range
pub netted_ready : (p : PeriodDataView) (rows : List Contract) → p.contracts ≡ Rows rows → IsReady p → All IsNetVolume (map (net_kwh rows) p.accounts) → IsReady (netted p)
netted_ready p rows are ready small =
    let named : All (IsContractListed p.accounts) rows = subst (AreContractsReady p.accounts) are ready.1.1 in
    let nets : AreNetsReady p.accounts (map (net_kwh rows) p.accounts) = record {
      each = length-map p.accounts (net_kwh rows);
      even = total-map (λ kwh. kwh) (net_kwh rows) p.accounts ∙ nets_sum p.accounts ready.0 rows named;
      sizes = small;
    } in
    (ready.0, (ready.1.0, subst (λ c. AreContractsReady p.accounts (netted_contracts p.accounts c)) (sym are) nets), ready.2)

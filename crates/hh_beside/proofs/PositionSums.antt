-- The net volumes of a Settlement Period sum to zero, and known positions give them.
use Rattle.std.proofs.Common.{◌≡◌, ◌≢◌, ℕ, ◌<◌, List, [], ◌∷◌, length, get_or, map, refl, ap, sym, subst, ◌∙◌, true, false, cond, Some, inl, inr, arith}
use Rattle.std.specs.Prelude.{ℤ, pos, neg_ℤ, ◌+ℤ◌, Contains, filter, filter_map, is_some, option_map, IsSome, T}
use Rattle.std.specs.Cmp.{Equal-is, eq_by_cmp_equiv, tied_itself}
use Rattle.std.specs.FinMap.{find}
use Rattle.std.specs.List.{AllByRecursion, cons_option}
use Rattle.std.specs.List.Sorted.{IsStrictlySortedBy}
use Rattle.std.specs.Ordering.{eq_by_cmp, is_eq, ordering_reverse}
use Rattle.std.proofs.Math.IntN.{+ℤ_invr}
use Rattle.std.proofs.lemmas.Bool.{cases_lt}
use Rattle.hh_num.specs.Totals.{total}
use Rattle.hh_num.proofs.TotalLaws.{total-map, total-neg, total-plus, total-swap}
use Rattle.hh_tables.specs.Tables.{Table}
use Rattle.hh_tables.proofs.MergeLaws.{from_true}
use Rattle.hh_tables.proofs.RowLaws.{first, second, sorted-filter}
use Rattle.hh_names.specs.declared.account.Account.{Account}
use Rattle.hh_names.specs.declared.values.Contract.{Contract}
use Rattle.hh_names.specs.declared.values.Counterparties.{Counterparties}
use Rattle.hh_names.specs.Accounts.{account_cmp, bytes_cmp, is_same_account}
use Rattle.hh_names.proofs.AccountLaws.{account_total}
use Rattle.hh_rows.specs.DateRanges.{holds}
use Rattle.hh_rows.specs.Keys.{contract_key_cmp, settlement_period_cmp}
use Rattle.hh_rows.specs.declared.keys.ContractKey.{ContractKey}
use Rattle.hh_rows.specs.declared.rows.ContractRow.{ContractRow}
use Rattle.hh_rows.specs.declared.settlement_period.SettlementPeriod.{SettlementPeriod}
use Rattle.hh_rows.proofs.KeyLaws.{contract_key_total, exact_settlement_periods}
use Rattle.hh_rules.specs.History.{Registered}
use Rattle.hh_rules.specs.Positions.{position_in}
use Rattle.hh_rules.specs.declared.positions.Position.{Position}
use Rattle.hh_rules.specs.declared.positions.Position.TheVariants.{Known, Lost}
use Rattle.hh_rules.specs.declared.positions.PositionKey.{PositionKey}
use Rattle.hh_calc.specs.Formulas.{if_same_account}
use Rattle.hh_calc.proofs.OrderLaws.{rises}
use Rattle.hh_calc.proofs.SpreadLaws.{counts_once}
use Rattle.hh_states.specs.Content.{tables_of}
use Rattle.hh_states.specs.PeriodSettlement.{accounts_on, row_in_force, rows_in_force}
use Rattle.hh_states.specs.Soundness.{AreConsistent, HasCounterparties, IsPartyEffective}
use Rattle.hh_state_laws.proofs.ConsistentLaws.{reached_consistent}
use Rattle.hh_state_laws.proofs.ReadyLaws.{account_there, parties_rise}
use Rattle.hh_calc.specs.Formulas.{net_kwh_of}
use Rattle.hh_states.specs.Beside.{net_position}
use Rattle.hh_beside.specs.PositionLaws.{KnownAreNets, are_known, is_known, position_key_at, volume_in, net_volumes_at}
use Rattle.hh_beside.proofs.PositionLists.{right_are}
use Rattle.hh_beside.proofs.PositionNets.{row_by}
use Rattle.hh_beside.proofs.PositionTables.{AreOf, IsOf, some_stays}

-- accounts in order, none of which occurs twice
module _ (accounts : List Account) (up : IsStrictlySortedBy account_cmp accounts) where
  -- no other place has the account
  others_differ : (d : Account) (k j : ℕ) → k < length accounts → j < length accounts → j ≢ k → is_same_account (get_or accounts k d) (get_or accounts j d) ≡ false
  others_differ d k j inside among ne = elim (cases_lt k j) [
    | inl lt ↦ ap is_eq (rises account_cmp accounts up k j d lt among)
    | inr le ↦ ap is_eq (
        account_total.antisymm (get_or accounts k d) (get_or accounts j d)
        ∙ ap ordering_reverse (rises account_cmp accounts up j k d (omega arith) inside))
  ]

  -- an amount of one of them counts once
  once : (b : Account) → Contains accounts b → (amount : ℤ) → total (λ a. if_same_account a b amount) accounts ≡ amount
  once b (k, inside, is) amount =
      counts_once (is_same_account b) (λ a. amount) accounts b k inside
      (ap is_eq (ap (account_cmp b) is ∙ tied_itself account_total b))
      (λ j among ne. ap (λ c. is_same_account c (get_or accounts j b)) (sym is) ∙ others_differ b k j inside among ne)

  -- the seller and the buyer of a contract are among them
  abbrev AreAmong : Counterparties → Type 0
  AreAmong c = Contains accounts c.seller × Contains accounts c.buyer

  -- what the seller of such a contract sells, its buyer buys
  one_contract : (c : Contract) → AreAmong c.counterparties → total (λ a. net_kwh_of a c) accounts ≡ pos 0
  one_contract c (sells, buys) =
      total-plus (λ a. if_same_account a c.counterparties.seller c.volume) (λ a. neg_ℤ (if_same_account a c.counterparties.buyer c.volume)) accounts
      ∙ (λ i. once c.counterparties.seller sells c.volume i +ℤ total-neg (λ a. if_same_account a c.counterparties.buyer c.volume) accounts i)
      ∙ ap (λ z. c.volume +ℤ neg_ℤ z) (once c.counterparties.buyer buys c.volume)
      ∙ +ℤ_invr c.volume

  -- so all contracts together sum to zero
  all_rows : (rows : List ContractRow) → AllByRecursion (λ r. AreAmong r.contract.counterparties) rows → total (λ r. total (λ a. net_kwh_of a r.contract) accounts) rows ≡ pos 0
  all_rows [] among = refl
  all_rows (r ∷ rows) among = λ i. one_contract r.contract among.0 i +ℤ all_rows rows among.1 i

module _ (tables : Registered) (at : SettlementPeriod) where
  abbrev accounts_then : List Account
  accounts_then = accounts_on tables at.date

  -- an account whose party is effective on the date is among the accounts
  effective_there : (a : Account) (date : ℕ) → date ≡ at.date → IsPartyEffective tables a.party date → Contains accounts_then a
  effective_there a date is effective =
      account_there at.date tables.parties a effective.registration effective.registered (ap (holds effective.registration.range) (sym is) ∙ effective.holding)

  -- the sellers and buyers of the contracts in force are among the accounts
  rows_among : (es : Table ContractKey ℤ) → ((key : ContractKey) → IsSome (find contract_key_cmp key es) → HasCounterparties tables key)
      → AllByRecursion (λ r. Contains accounts_then r.contract.counterparties.seller × Contains accounts_then r.contract.counterparties.buyer)
      (filter_map (row_in_force tables) (filter (λ e. eq_by_cmp settlement_period_cmp e.0.at at) es))
  rows_among [] has = tt
  rows_among (e ∷ es) has =
      let here : Table ContractKey ℤ = filter (λ x. eq_by_cmp settlement_period_cmp x.0.at at) es in
      let rows : List ContractRow = filter_map (row_in_force tables) here in
      let rest = rows_among es (λ key there. has key (some_stays (eq_by_cmp contract_key_cmp key e.0) e.1 (find contract_key_cmp key es) there)) in
      let own : HasCounterparties tables e.0 = has e.0 (ap (λ b. is_some (cond b (Some e.1) (find contract_key_cmp e.0 es))) ((eq_by_cmp_equiv contract_key_total).refl e.0)) in
      elim (eq_by_cmp settlement_period_cmp e.0.at at) as (λ b. eq_by_cmp settlement_period_cmp e.0.at at ≡ b
      → AllByRecursion (λ r. Contains accounts_then r.contract.counterparties.seller × Contains accounts_then r.contract.counterparties.buyer) (filter_map (row_in_force tables) (cond b (e ∷ here) here))) [
        | false ↦ λ other. rest
        | true ↦ λ same.
            let date : e.0.at.date ≡ at.date = ap (λ (p : SettlementPeriod). p.date) (exact_settlement_periods e.0.at at ((Equal-is (settlement_period_cmp e.0.at at)).0 same)) in
            subst (λ o. AllByRecursion (λ r. Contains accounts_then r.contract.counterparties.seller × Contains accounts_then r.contract.counterparties.buyer) (cons_option (option_map (row_by e) o) rows)) (sym own.fixed)
            ((effective_there own.counterparties.seller e.0.at.date date own.seller, effective_there own.counterparties.buyer e.0.at.date date own.buyer), rest)
      ] refl

  zero_over : AreConsistent tables → total (λ a. net_position tables (position_key_at at a)) accounts_then ≡ pos 0
  zero_over consistent =
      total-swap (λ a (r : ContractRow). net_kwh_of a r.contract) accounts_then (rows_in_force tables at)
      ∙ all_rows accounts_then
      (parties_rise (filter (λ e. holds e.1.range at.date) tables.parties) (sorted-filter bytes_cmp (λ e. holds e.1.range at.date) tables.parties (from_true _ consistent.rising.parties)))
      (rows_in_force tables at) (rows_among tables.contracts consistent.contracts)

-- a known position gives its net volume
volume_is : (net : ℤ) (p : Position) → T (is_known p) → IsOf net p → volume_in p ≡ net
volume_is net (Known n) known is = is
volume_is net Lost known is = absurd known

volumes_are : (nets : PositionKey → ℤ) (positions : Table PositionKey Position) (at : SettlementPeriod) → AreOf nets positions → (accounts : List Account)
    → T (are_known positions at accounts) → net_volumes_at positions at accounts ≡ map (λ a. nets (position_key_at at a)) accounts
volumes_are nets positions at are [] known = refl
volumes_are nets positions at are (a ∷ accounts) known =
    let head = volume_is (nets (position_key_at at a)) (position_in positions (position_key_at at a)) (first _ _ known) (are (position_key_at at a)) in
    λ i. head i ∷ volumes_are nets positions at are accounts (second _ _ known) i

pub known_are_nets : KnownAreNets
known_are_nets midnight s at positions reached right known =
    let tables : Registered = (tables_of midnight s).registered in
    let accounts : List Account = accounts_on tables at.date in
    let exact : net_volumes_at positions at accounts ≡ map (λ a. net_position tables (position_key_at at a)) accounts =
    volumes_are (net_position tables) positions at (right_are tables positions right).nets accounts (from_true _ known) in
    record {
      exact = exact;
      zero = ap (total (λ v. v)) exact
          ∙ total-map (λ v. v) (λ a. net_position tables (position_key_at at a)) accounts
          ∙ zero_over tables at (reached_consistent midnight s reached);
    }

-- Net positions as sums over the contracts in force, and how an accepted row changes them.
use Rattle.std.proofs.Common.{◌≡◌, ℕ, List, [], ◌∷◌, refl, ap, sym, ◌∙◌, true, false, cond, Option, Some, None, Ordering, arith}
use Rattle.std.specs.Prelude.{ℤ, pos, ◌+ℤ◌, ◌-ℤ◌, filter, filter_map, is_some, option_map, IsSome, T}
use Rattle.std.specs.Cmp.{IsTotalOrder, eq_by_cmp_equiv}
use Rattle.std.specs.FinMap.{find, is_sorted, put}
use Rattle.std.specs.List.{cons_option}
use Rattle.std.specs.Ordering.{eq_by_cmp}
use Rattle.std.proofs.Math.IntN.{+ℤ_idl}
use Rattle.std.proofs.lemmas.Int.{ints}
use Rattle.hh_num.specs.Totals.{total}
use Rattle.hh_tables.specs.Tables.{Table}
use Rattle.hh_names.specs.declared.values.Counterparties.{Counterparties}
use Rattle.hh_names.specs.Accounts.{bytes_cmp}
use Rattle.hh_names.specs.CounterpartyRule.{is_moved}
use Rattle.hh_names.proofs.AccountLaws.{bytes_total}
use Rattle.hh_rows.specs.Keys.{contract_key_cmp, settlement_period_cmp}
use Rattle.hh_rows.specs.declared.keys.ContractKey.{ContractKey}
use Rattle.hh_rows.specs.declared.rows.ContractRow.{ContractRow}
use Rattle.hh_rows.specs.declared.rows.Row.TheVariants as row
use Rattle.hh_rows.specs.declared.settlement_period.SettlementPeriod.{SettlementPeriod}
use Rattle.hh_rows.proofs.KeyLaws.{contract_key_total, exact_contract_keys}
use Rattle.hh_rules.specs.Effects.{put_new, with_row}
use Rattle.hh_rules.specs.History.{Registered}
use Rattle.hh_rules.specs.Positions.{volume_of}
use Rattle.hh_rules.specs.declared.positions.PositionKey.{PositionKey}
use Rattle.hh_rules.proofs.SumFacts.{part_of, total-put-part}
use Rattle.hh_states.specs.PeriodSettlement.{row_in_force}
use Rattle.hh_state_laws.proofs.EffectiveLaws.{fixed_by_row}
use Rattle.hh_state_laws.proofs.PutLaws.{keys-put_in_time, stays-put_new}
use Rattle.hh_calc.specs.Formulas.{net_kwh_of}
use Rattle.hh_states.specs.Beside.{net_position}
use Rattle.hh_beside.specs.Keeping.{replaced_by}
use Rattle.hh_beside.proofs.PositionTables.{less_nothing, part, part-minus, some_stays}

-- the part of a volume that counts under a key, by its seller and buyer if they are known
abbrev part_by : Option Counterparties → SettlementPeriod → ℤ → PositionKey → ℤ
part_by None at volume key = pos 0
part_by (Some c) at volume key = part at c volume key

-- the part of a contract in force that counts under a key
abbrev part_in : Table (List ℕ) Counterparties → PositionKey → ContractKey × ℤ → ℤ
part_in references key e = part_by (find bytes_cmp e.0.reference references) e.0.at e.1 key

-- the part of a contract row that counts under a key
abbrev pub part_of_row : PositionKey → ContractRow → ℤ
part_of_row key r = part r.key.at r.contract.counterparties r.contract.volume key

-- the row of a contract with its seller and buyer
abbrev pub row_by : ContractKey × ℤ → Counterparties → ContractRow
row_by e c = record { key = e.0; contract = record { counterparties = c; volume = e.1 } }

module _ (tables : Registered) (key : PositionKey) where
  -- the sum over the contract rows of the key's Settlement Period is the sum of the parts of all rows under the key
  sold_is_part : (es : Table ContractKey ℤ) →
      total (λ (r : ContractRow). net_kwh_of key.account r.contract) (filter_map (row_in_force tables) (filter (λ e. eq_by_cmp settlement_period_cmp e.0.at key.at) es))
      ≡ total (part_of_row key) (filter_map (row_in_force tables) es)
  sold_is_part [] = refl
  sold_is_part (e ∷ es) =
      let here : List (ContractKey × ℤ) = filter (λ x. eq_by_cmp settlement_period_cmp x.0.at key.at) es in
      let rows : List ContractRow = filter_map (row_in_force tables) es in
      let rest = sold_is_part es in
      elim (find bytes_cmp e.0.reference tables.references) as (λ o.
      find bytes_cmp e.0.reference tables.references ≡ o
      → total (λ (r : ContractRow). net_kwh_of key.account r.contract) (filter_map (row_in_force tables) (cond (eq_by_cmp settlement_period_cmp e.0.at key.at) (e ∷ here) here))
      ≡ total (part_of_row key) (cons_option (option_map (row_by e) o) rows)) [
        | None ↦ λ is.
            elim (eq_by_cmp settlement_period_cmp e.0.at key.at) as (λ b.
            total (λ (r : ContractRow). net_kwh_of key.account r.contract) (filter_map (row_in_force tables) (cond b (e ∷ here) here)) ≡ total (part_of_row key) rows) [
              | true ↦ ap (λ o. total (λ (r : ContractRow). net_kwh_of key.account r.contract) (cons_option (option_map (row_by e) o) (filter_map (row_in_force tables) here))) is ∙ rest
              | false ↦ rest
            ]
        | Some c ↦ λ is.
            elim (eq_by_cmp settlement_period_cmp e.0.at key.at) as (λ b.
            total (λ (r : ContractRow). net_kwh_of key.account r.contract) (filter_map (row_in_force tables) (cond b (e ∷ here) here))
            ≡ cond b (net_kwh_of key.account (record { counterparties = c; volume = e.1 })) (pos 0) +ℤ total (part_of_row key) rows) [
              | true ↦ ap (λ o. total (λ (r : ContractRow). net_kwh_of key.account r.contract) (cons_option (option_map (row_by e) o) (filter_map (row_in_force tables) here))) is
                  ∙ ap (λ z. net_kwh_of key.account (record { counterparties = c; volume = e.1 }) +ℤ z) rest
              | false ↦ rest ∙ sym (+ℤ_idl (total (part_of_row key) rows))
            ]
      ] refl

  -- which is the sum of the parts of the contracts themselves
  part_is_of : (es : Table ContractKey ℤ) → total (part_of_row key) (filter_map (row_in_force tables) es) ≡ total (part_in tables.references key) es
  part_is_of [] = refl
  part_is_of (e ∷ es) =
      let rest = part_is_of es in
      elim (find bytes_cmp e.0.reference tables.references) as (λ o.
      total (part_of_row key) (cons_option (option_map (row_by e) o) (filter_map (row_in_force tables) es)) ≡ part_by o e.0.at e.1 key +ℤ total (part_in tables.references key) es) [
        | None ↦ rest ∙ sym (+ℤ_idl (total (part_in tables.references key) es))
        | Some c ↦ ap (λ z. part e.0.at c e.1 key +ℤ z) rest
      ]

  -- a net position is the sum over all rows in force
  pub net_is_rows : net_position tables key ≡ total (part_of_row key) (filter_map (row_in_force tables) tables.contracts)
  net_is_rows = sold_is_part tables.contracts

  net_is_parts : net_position tables key ≡ total (part_in tables.references key) tables.contracts
  net_is_parts = net_is_rows ∙ part_is_of tables.contracts

-- two sums over a table are the same if they are for each key in it
total-within : {K V : Type 0} {R : K → K → Ordering} → IsTotalOrder R → (f g : K × V → ℤ) (es : List (K × V)) → ((k : K) (v : V) → IsSome (find R k es) → f (k, v) ≡ g (k, v))
    → total f es ≡ total g es
total-within o f g [] same = refl
total-within {R = R} o f g (e ∷ es) same =
    let head : f e ≡ g e = same e.0 e.1 (ap (λ b. is_some (cond b (Some e.1) (find R e.0 es))) ((eq_by_cmp_equiv o).refl e.0)) in
    λ i. head i +ℤ total-within o f g es (λ k v there. same k v (some_stays (eq_by_cmp R k e.0) e.1 (find R k es) there)) i

-- the reference of each contract in force is fixed
abbrev pub AreFixed : Registered → Type 0
AreFixed tables = (key : ContractKey) → IsSome (find contract_key_cmp key tables.contracts) → IsSome (find bytes_cmp key.reference tables.references)

-- the references of contracts in force are fixed, and a contract row comes whose reference keeps its seller and buyer
module _ (tables : Registered) (fixed : AreFixed tables) (r : ContractRow) where
  abbrev new_references : Table (List ℕ) Counterparties
  new_references = put_new bytes_cmp (Some (r.key.reference, r.contract.counterparties)) tables.references

  -- a reference that is fixed stays so
  pub reference_stays : (reference : List ℕ) (c : Counterparties) → find bytes_cmp reference tables.references ≡ Some c → find bytes_cmp reference new_references ≡ Some c
  reference_stays = stays-put_new bytes_total r.key.reference r.contract.counterparties tables.references

  is_some_stays : (reference : List ℕ) → IsSome (find bytes_cmp reference tables.references) → IsSome (find bytes_cmp reference new_references)
  is_some_stays reference h = elim (find bytes_cmp reference tables.references) as (λ o. find bytes_cmp reference tables.references ≡ o → IsSome o → IsSome (find bytes_cmp reference new_references)) [
    | None ↦ λ is none. cc
    | Some c ↦ λ is some. ap is_some (reference_stays reference c is)
  ] refl h

  -- by the references after the row, what is in force has the same net positions
  pub late_same : (key : PositionKey) → net_position (with_row false (row.Contract r) tables) key ≡ net_position tables key
  late_same key =
      net_is_parts (with_row false (row.Contract r) tables) key
      ∙ total-within contract_key_total (part_in new_references key) (part_in tables.references key) tables.contracts (λ k v there. same k v (fixed k there))
      ∙ sym (net_is_parts tables key)
    where
      same : (k : ContractKey) (v : ℤ) → IsSome (find bytes_cmp k.reference tables.references) → part_in new_references key (k, v) ≡ part_in tables.references key (k, v)
      same k v h = elim (find bytes_cmp k.reference tables.references) as (λ o. find bytes_cmp k.reference tables.references ≡ o → IsSome o
          → part_in new_references key (k, v) ≡ part_by o k.at v key) [
            | None ↦ λ is none. cc
            | Some c ↦ λ is some. ap (λ o. part_by o k.at v key) (reference_stays k.reference c is)
          ] refl h

  -- each reference of a contract in force is still fixed
  pub late_fixed : AreFixed (with_row false (row.Contract r) tables)
  late_fixed key there = is_some_stays key.reference (fixed key there)

  module _ (unmoved : is_moved (find bytes_cmp r.key.reference tables.references) r.contract.counterparties ≡ false) where
    -- the row's seller and buyer are those of its reference after the row
    pub own_reference : find bytes_cmp r.key.reference new_references ≡ Some r.contract.counterparties
    own_reference = fixed_by_row tables r.key.reference r.contract.counterparties unmoved

    -- the reference of each contract in force is still fixed after a contract row in time
    pub timely_fixed : AreFixed (with_row true (row.Contract r) tables)
    timely_fixed =
        keys-put_in_time contract_key_total exact_contract_keys (λ k. IsSome (find bytes_cmp k.reference new_references)) true r.key r.contract.volume tables.contracts
        (ap is_some own_reference) late_fixed

    module _ (key : PositionKey) where
      -- the part of each contract, by the references after the row
      abbrev then_part : ContractKey × ℤ → ℤ
      then_part = part_in new_references key

      -- the part of a volume of the row's contract
      abbrev own : ℤ → ℤ
      own v = part r.key.at r.contract.counterparties v key

      own_is : (v : ℤ) → then_part (r.key, v) ≡ own v
      own_is v = ap (λ o. part_by o r.key.at v key) own_reference

      -- the sum after the row replaces the one of its key
      abbrev new_total : ℤ
      new_total = total then_part (put contract_key_cmp r.key r.contract.volume tables.contracts)

      abbrev old_total : ℤ
      old_total = total then_part tables.contracts

      changed : T (is_sorted contract_key_cmp tables.contracts) → new_total +ℤ part_of then_part r.key (find contract_key_cmp r.key tables.contracts) ≡ old_total +ℤ own r.contract.volume
      changed sorted =
          total-put-part contract_key_total r.key then_part (λ x w tied. ap (λ (k : ContractKey). then_part (k, w)) (sym (exact_contract_keys r.key x tied))) r.contract.volume tables.contracts sorted
          ∙ ap (λ z. old_total +ℤ z) (own_is r.contract.volume)

      before : net_position tables key ≡ old_total
      before = sym (late_same key) ∙ net_is_parts (with_row false (row.Contract r) tables) key

      after : net_position (with_row true (row.Contract r) tables) key ≡ new_total
      after = net_is_parts (with_row true (row.Contract r) tables) key

      put_first : (new old own_new : ℤ) → new +ℤ pos 0 ≡ old +ℤ own_new → new ≡ old +ℤ own_new
      put_first new old own_new e = omega (arith, ints)

      put_again : (new old own_new own_old own_more : ℤ) → new +ℤ own_old ≡ old +ℤ own_new → own_more ≡ own_new -ℤ own_old → new ≡ old +ℤ own_more
      put_again new old own_new own_old own_more e f = omega (arith, ints)

      -- the row adds the part of the growth of its volume
      pub timely_more : T (is_sorted contract_key_cmp tables.contracts) → net_position (with_row true (row.Contract r) tables) key
          ≡ net_position tables key +ℤ part r.key.at r.contract.counterparties (r.contract.volume -ℤ volume_of (replaced_by r tables.contracts)) key
      timely_more sorted =
          after
          ∙ elim (find contract_key_cmp r.key tables.contracts) as (λ o. new_total +ℤ part_of then_part r.key o ≡ old_total +ℤ own r.contract.volume
          → new_total ≡ old_total +ℤ own (r.contract.volume -ℤ volume_of (option_map (λ v. record r { contract = record r.contract { volume = v } }) o))) [
            | None ↦ λ is. put_first new_total old_total (own r.contract.volume) is ∙ ap (λ v. old_total +ℤ own v) (sym (less_nothing r.contract.volume))
            | Some w ↦ λ is.
                put_again new_total old_total (own r.contract.volume) (own w) (own (r.contract.volume -ℤ w))
                (ap (λ z. new_total +ℤ z) (sym (own_is w)) ∙ is)
                (part-minus r.key.at r.contract.counterparties r.contract.volume w key)
          ] (changed sorted)
          ∙ ap (λ z. z +ℤ own (r.contract.volume -ℤ volume_of (replaced_by r tables.contracts))) (sym before)

-- Whether the positions of a table are right, by what is found under each key.
use Rattle.std.proofs.Common.{◌≡◌, List, [], ◌∷◌, refl, ap, sym, subst, ◌∙◌, Bool, true, false, cond, Some, None, Ordering}
use Rattle.std.specs.Prelude.{ℤ, pos, ◌+ℤ◌, ◌-ℤ◌, ◌&&◌, filter_map, is_some, option_map, unwrap_or, IsSome, IsTrue, T}
use Rattle.std.specs.Cmp.{IsTotalOrder, Equal-is, eq_by_cmp_equiv, int_eq_equiv}
use Rattle.std.specs.FinMap.{find, is_sorted}
use Rattle.std.specs.FinMap.Entries.{below_all, find_tied}
use Rattle.std.specs.List.{cons_option, list_all}
use Rattle.std.specs.Ordering.{eq_by_cmp, int_cmp, int_eq, is_eq}
use Rattle.std.proofs.lemmas.Int.{ints}
use Rattle.std.proofs.lemmas.Map.Lookups.{exact_signed}
use Rattle.std.proofs.lemmas.Option.{same_Some}
use Rattle.std.proofs.Common.{arith}
use Rattle.hh_num.specs.Totals.{total}
use Rattle.hh_tables.specs.Tables.{Table}
use Rattle.hh_tables.proofs.MergeLaws.{from_true, true_from}
use Rattle.hh_tables.proofs.RowLaws.{both, equal, first, less, second}
use Rattle.hh_names.specs.declared.values.Counterparties.{Counterparties}
use Rattle.hh_names.specs.Accounts.{bytes_cmp}
use Rattle.hh_rows.specs.Keys.{contract_key_cmp}
use Rattle.hh_rows.specs.declared.keys.ContractKey.{ContractKey}
use Rattle.hh_rows.specs.declared.rows.ContractRow.{ContractRow}
use Rattle.hh_rows.specs.declared.settlement_period.SettlementPeriod.{SettlementPeriod}
use Rattle.hh_rows.proofs.KeyLaws.{contract_key_total, exact_contract_keys}
use Rattle.hh_rules.specs.History.{Registered}
use Rattle.hh_rules.specs.Positions.{position_key, position_key_cmp}
use Rattle.hh_rules.specs.declared.positions.Position.{Position}
use Rattle.hh_rules.specs.declared.positions.Position.TheVariants.{Known, Lost}
use Rattle.hh_rules.specs.declared.positions.PositionKey.{PositionKey}
use Rattle.hh_states.specs.PeriodSettlement.{row_in_force}
use Rattle.hh_states.specs.Beside.{are_positions_right, has_positions, is_right, net_position}
use Rattle.hh_beside.proofs.PositionKeys.{exact_position_keys, position_key_total}
use Rattle.hh_beside.proofs.PositionNets.{net_is_rows, part_of_row, row_by}
use Rattle.hh_beside.proofs.PositionTables.{AreOf, Has, IsOf, part_is, some_stays}

module _ {K V : Type 0} {R : K → K → Ordering} (o : IsTotalOrder R) where
  -- a key below all keys of a list is not found there
  pub not_below : (k : K) (es : List (K × V)) → T (below_all R k es) → find R k es ≡ None
  not_below k [] h = refl
  not_below k (e ∷ es) h = ap (λ r. cond (is_eq r) (Some e.1) (find R k es)) (less _ (first _ _ h)) ∙ not_below k es (second _ _ h)

  -- what is found after the first row of a table is found in the whole table
  found_behind : (e : K × V) (es : List (K × V)) → T (below_all R e.0 es) → (k : K) (v : V) → find R k es ≡ Some v → find R k (e ∷ es) ≡ Some v
  found_behind e es below k v found =
      elim (eq_by_cmp R k e.0) as (λ b. eq_by_cmp R k e.0 ≡ b → cond b (Some e.1) (find R k es) ≡ Some v) [
        | true ↦ λ same.
            let none : Some v ≡ None = sym found ∙ sym (find_tied R o k e.0 ((Equal-is (R k e.0)).0 same) es) ∙ not_below e.0 es below in
            cc
        | false ↦ λ other. found
      ] refl

  -- if each row that is found passes a test, each row of a table passes it
  pub all-found : (test : K × V → Bool) (es : List (K × V)) → T (is_sorted R es) → ((k : K) (v : V) → find R k es ≡ Some v → T (test (k, v))) → T (list_all test es)
  all-found test [] up each = tt
  all-found test (e ∷ es) up each =
      both _ _ (each e.0 e.1 (ap (λ b. cond b (Some e.1) (find R e.0 es)) ((eq_by_cmp_equiv o).refl e.0)))
      (all-found test es (second _ _ up) (λ k v found. each k v (found_behind e es (first _ _ up) k v found)))

module _ (tables : Registered) where
  -- a position is right exactly if it is of its net position
  right_is : (key : PositionKey) (p : Position) → T (is_right tables (key, p)) → IsOf (net_position tables key) p
  right_is key (Known n) h = exact_signed n (net_position tables key) (equal (int_cmp n (net_position tables key)) (true_from _ h))
  right_is key Lost h = tt

  is_then_right : (key : PositionKey) (p : Position) → IsOf (net_position tables key) p → T (is_right tables (key, p))
  is_then_right key (Known n) h = subst (λ z. T (int_eq n z)) h (from_true _ (int_eq_equiv.refl n))
  is_then_right key Lost h = tt

  -- if all positions are right, so is each that is found
  found_right : (positions : Table PositionKey Position) → T (list_all (is_right tables) positions) → (key : PositionKey) (p : Position) → find position_key_cmp key positions ≡ Some p
      → IsOf (net_position tables key) p
  found_right [] all key p found = cc
  found_right (e ∷ es) all key p found =
      elim (eq_by_cmp position_key_cmp key e.0) as (λ b. eq_by_cmp position_key_cmp key e.0 ≡ b → cond b (Some e.1) (find position_key_cmp key es) ≡ Some p → IsOf (net_position tables key) p) [
        | true ↦ λ same is.
            subst (λ k. IsOf (net_position tables k) p) (sym (exact_position_keys key e.0 ((Equal-is (position_key_cmp key e.0)).0 same)))
            (subst (IsOf (net_position tables e.0)) (same_Some e.1 p is) (right_is e.0 e.1 (first _ _ all)))
        | false ↦ λ other is. found_right es (second _ _ all) key p is
      ] refl found

-- the seller's and the buyer's position of a contract
abbrev pub HasBoth : Table PositionKey Position → SettlementPeriod → Counterparties → Type 0
HasBoth positions at c = Has positions (record { at = at; account = c.seller }) × Has positions (record { at = at; account = c.buyer })

module _ (positions : Table PositionKey Position) where
  both_there : (r : ContractRow) → T (has_positions positions r) → HasBoth positions r.key.at r.contract.counterparties
  both_there r h = (true_from _ (first _ _ h), true_from _ (second _ _ h))

  -- a row whose seller and buyer have positions contributes nothing to a key that has none
  nothing_for : (key : PositionKey) → find position_key_cmp key positions ≡ None → (r : ContractRow) → T (has_positions positions r) → part_of_row key r ≡ pos 0
  nothing_for key none r h =
      let has = both_there r h in
      let volume : ℤ = r.contract.volume in
      let sells : eq_by_cmp position_key_cmp key (position_key r r.contract.counterparties.seller) ≡ false = apart (position_key r r.contract.counterparties.seller) has.0 in
      let buys : eq_by_cmp position_key_cmp key (position_key r r.contract.counterparties.buyer) ≡ false = apart (position_key r r.contract.counterparties.buyer) has.1 in
      only_part (part_of_row key r) (sym (part_is r.key.at r.contract.counterparties volume (pos 0) key) ∙ (λ i. (pos 0 +ℤ cond (sells i) volume (pos 0)) +ℤ cond (buys i) (pos 0 -ℤ volume) (pos 0)))
    where
      apart : (k : PositionKey) → Has positions k → eq_by_cmp position_key_cmp key k ≡ false
      apart k has = elim (eq_by_cmp position_key_cmp key k) as (λ b. eq_by_cmp position_key_cmp key k ≡ b → b ≡ false) [
        | true ↦ λ same.
            let missing : false ≡ true = sym (ap is_some (find_tied position_key_cmp position_key_total key k ((Equal-is (position_key_cmp key k)).0 same) positions ∙ none)) ∙ has in
            sym missing
        | false ↦ λ other. refl
      ] refl

      only_part : (x : ℤ) → pos 0 +ℤ x ≡ (pos 0 +ℤ pos 0) +ℤ pos 0 → x ≡ pos 0
      only_part x e = omega (arith, ints)

  nothing_in_all : (key : PositionKey) → find position_key_cmp key positions ≡ None → (rows : List ContractRow) → T (list_all (has_positions positions) rows) → total (part_of_row key) rows ≡ pos 0
  nothing_in_all key none [] h = refl
  nothing_in_all key none (r ∷ rows) h = λ i. nothing_for key none r (first _ _ h) i +ℤ nothing_in_all key none rows (second _ _ h) i

  module _ (tables : Registered) where
    -- if the rows in force have both positions, so have the contracts in force
    pub of_contracts : (es : Table ContractKey ℤ) → T (list_all (has_positions positions) (filter_map (row_in_force tables) es)) → (key : ContractKey) → IsSome (find contract_key_cmp key es)
        → (c : Counterparties) → find bytes_cmp key.reference tables.references ≡ Some c → HasBoth positions key.at c
    of_contracts [] h key there c fixed = cc
    of_contracts (e ∷ es) h key there c fixed =
        let rows : List ContractRow = filter_map (row_in_force tables) es in
        elim (eq_by_cmp contract_key_cmp key e.0) as (λ b. eq_by_cmp contract_key_cmp key e.0 ≡ b → IsSome (cond b (Some e.1) (find contract_key_cmp key es)) → HasBoth positions key.at c) [
          | true ↦ λ same _.
              let one : key ≡ e.0 = exact_contract_keys key e.0 ((Equal-is (contract_key_cmp key e.0)).0 same) in
              let own : find bytes_cmp e.0.reference tables.references ≡ Some c = ap (λ (k : ContractKey). find bytes_cmp k.reference tables.references) (sym one) ∙ fixed in
              let head : T (list_all (has_positions positions) (cons_option (option_map (row_by e) (Some c)) rows)) = subst (λ o. T (list_all (has_positions positions) (cons_option (option_map (row_by e) o) rows))) own h in
              subst (λ (k : ContractKey). HasBoth positions k.at c) (sym one) (both_there (row_by e c) (first _ _ head))
          | false ↦ λ other is.
              of_contracts es
              (elim (find bytes_cmp e.0.reference tables.references) as (λ o. T (list_all (has_positions positions) (cons_option (option_map (row_by e) o) rows)) → T (list_all (has_positions positions) rows)) [
                | None ↦ λ all. all
                | Some d ↦ λ all. second _ _ all
              ] h) key is c fixed
        ] refl there

    -- and conversely
    of_rows : (es : Table ContractKey ℤ) → ((key : ContractKey) → IsSome (find contract_key_cmp key es) → (c : Counterparties) → find bytes_cmp key.reference tables.references ≡ Some c → HasBoth positions key.at c)
        → T (list_all (has_positions positions) (filter_map (row_in_force tables) es))
    of_rows [] each = tt
    of_rows (e ∷ es) each =
        let rows : List ContractRow = filter_map (row_in_force tables) es in
        let rest : T (list_all (has_positions positions) rows) = of_rows es (λ key there. each key (some_stays (eq_by_cmp contract_key_cmp key e.0) e.1 (find contract_key_cmp key es) there)) in
        elim (find bytes_cmp e.0.reference tables.references) as (λ o. find bytes_cmp e.0.reference tables.references ≡ o → T (list_all (has_positions positions) (cons_option (option_map (row_by e) o) rows))) [
          | None ↦ λ is. rest
          | Some c ↦ λ is.
              let has = each e.0 (ap (λ b. is_some (cond b (Some e.1) (find contract_key_cmp e.0 es))) ((eq_by_cmp_equiv contract_key_total).refl e.0)) c is in
              both _ _ (both _ _ (from_true _ has.0) (from_true _ has.1)) rest
        ] refl

-- right positions: a table, each of its net position, with positions of the seller and buyer of each contract in force
pub record AreRight (tables : Registered) (positions : Table PositionKey Position) : Type 0 where
  pub table : T (is_sorted position_key_cmp positions)
  pub nets : AreOf (net_position tables) positions
  pub named : (key : ContractKey) → IsSome (find contract_key_cmp key tables.contracts) → (c : Counterparties) → find bytes_cmp key.reference tables.references ≡ Some c
      → HasBoth positions key.at c

module _ (tables : Registered) (positions : Table PositionKey Position) where
  abbrev rows_now : List ContractRow
  rows_now = filter_map (row_in_force tables) tables.contracts

  -- positions that pass the test are right
  pub right_are : IsTrue (are_positions_right tables positions) → AreRight tables positions
  right_are right =
      let sorted : T (is_sorted position_key_cmp positions) = first _ _ (from_true _ right) in
      let parts = second (is_sorted position_key_cmp positions) (list_all (is_right tables) positions && list_all (has_positions positions) rows_now) (from_true _ right) in
      let each : T (list_all (is_right tables) positions) = first _ (list_all (has_positions positions) rows_now) parts in
      let named : T (list_all (has_positions positions) rows_now) = second (list_all (is_right tables) positions) _ parts in
      record {
        table = sorted;
        nets = λ key. elim (find position_key_cmp key positions) as (λ o. find position_key_cmp key positions ≡ o → IsOf (net_position tables key) (unwrap_or o (Known (pos 0)))) [
          | None ↦ λ none. sym (net_is_rows tables key ∙ nothing_in_all positions key none rows_now named)
          | Some p ↦ λ found. found_right tables positions each key p found
        ] refl;
        named = of_contracts positions tables tables.contracts named;
      }

  -- and conversely
  pub are_right : AreRight tables positions → IsTrue (are_positions_right tables positions)
  are_right are =
      true_from _ (both _ _ are.table (both _ _
      (all-found position_key_total (is_right tables) positions are.table
      (λ key p found. is_then_right tables key p (subst (λ o. IsOf (net_position tables key) (unwrap_or o (Known (pos 0)))) found (are.nets key))))
      (of_rows positions tables tables.contracts are.named)))

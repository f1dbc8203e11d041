-- Positions that are made anew from the contracts in force are right.
use Rattle.std.proofs.Common.{◌≡◌, List, [], ◌∷◌, refl, ap, sym, ◌∙◌}
use Rattle.std.specs.Prelude.{ℤ, pos, ◌+ℤ◌, ◌-ℤ◌, filter_map, None, Option, Some, T, IsTrue}
use Rattle.std.specs.FinMap.{find, is_sorted}
use Rattle.std.specs.FinMap.Entries.{same_entries}
use Rattle.std.specs.List.{list_all}
use Rattle.std.specs.Option.{option_or}
use Rattle.std.proofs.Math.IntN.{+ℤ_assoc, +ℤ_idl, +ℤ_idr}
use Rattle.hh_num.specs.Totals.{total}
use Rattle.hh_tables.specs.Tables.{Table, put_all}
use Rattle.hh_tables.proofs.MergeLaws.{from_true}
use Rattle.hh_tables.proofs.RowLaws.{both, is_sorted-put_all}
use Rattle.hh_rows.specs.declared.rows.ContractRow.{ContractRow}
use Rattle.hh_rules.specs.Positions.{position_key, position_key_cmp, with_replaced}
use Rattle.hh_rules.specs.declared.positions.Position.{Position}
use Rattle.hh_rules.specs.declared.positions.PositionKey.{PositionKey}
use Rattle.hh_rules.specs.History.{Registered}
use Rattle.hh_states.specs.PeriodSettlement.{row_in_force}
use Rattle.hh_states.specs.Beside.{are_positions_right, has_positions, net_position}
use Rattle.hh_beside.specs.Keeping.{positions_by, positions_of}
use Rattle.hh_beside.specs.PositionLaws.{MadeAnewAreWritten}
use Rattle.hh_beside.proofs.PositionKeys.{exact_position_keys, position_key_total}
use Rattle.hh_beside.proofs.PositionLists.{are_right, of_contracts}
use Rattle.hh_beside.proofs.PositionNets.{net_is_rows, part_of_row}
use Rattle.hh_beside.proofs.PositionTables.{AreOf, Has, buys-with_replaced, less_nothing, part, same_nets, sells-with_replaced, stays-with_replaced, with_contract_are, with_replaced_table}
use Rattle.hh_beside.proofs.PositionWrites.{found_changed}

-- one more row, and the rows after it
first_and_rest : (net first rest : ℤ) (key : PositionKey) (r : ContractRow) → first ≡ part r.key.at r.contract.counterparties (r.contract.volume -ℤ pos 0) key
    → (net +ℤ first) +ℤ rest ≡ net +ℤ (part_of_row key r +ℤ rest)
first_and_rest net first rest key r is =
    +ℤ_assoc net first rest
    ∙ ap (λ z. net +ℤ (z +ℤ rest)) (is ∙ ap (λ v. part r.key.at r.contract.counterparties v key) (less_nothing r.contract.volume))

-- each row adds its part
made_are : (rows : List ContractRow) (nets : PositionKey → ℤ) (positions : Table PositionKey Position) → AreOf nets positions
    → AreOf (λ q. nets q +ℤ total (part_of_row q) rows) (positions_of rows positions)
made_are [] nets positions are = same_nets nets (λ q. nets q +ℤ pos 0) positions (λ q. sym (+ℤ_idr (nets q))) are
made_are (r ∷ rows) nets positions are =
    same_nets (λ q. (nets q +ℤ part r.key.at r.contract.counterparties (r.contract.volume -ℤ pos 0) q) +ℤ total (part_of_row q) rows) (λ q. nets q +ℤ (part_of_row q r +ℤ total (part_of_row q) rows))
    (positions_of (r ∷ rows) positions)
    (λ q. first_and_rest (nets q) (part r.key.at r.contract.counterparties (r.contract.volume -ℤ pos 0) q) (total (part_of_row q) rows) q r refl)
    (made_are rows (λ q. nets q +ℤ part r.key.at r.contract.counterparties (r.contract.volume -ℤ pos 0) q) (with_replaced None r positions)
    (with_contract_are None r positions nets are))

-- the positions are a table
made_table : (rows : List ContractRow) (positions : Table PositionKey Position) → T (is_sorted position_key_cmp positions) → T (is_sorted position_key_cmp (positions_of rows positions))
made_table [] positions h = h
made_table (r ∷ rows) positions h = made_table rows (with_replaced None r positions) (with_replaced_table None r positions h)

-- a key that has a position keeps one
stays-made : (rows : List ContractRow) (positions : Table PositionKey Position) (q : PositionKey) → Has positions q → Has (positions_of rows positions) q
stays-made [] positions q h = h
stays-made (r ∷ rows) positions q h = stays-made rows (with_replaced None r positions) q (stays-with_replaced None r positions q h)

-- each seller and each buyer has a position
made_named : (rows : List ContractRow) (positions : Table PositionKey Position) → T (list_all (has_positions (positions_of rows positions)) rows)
made_named [] positions = tt
made_named (r ∷ rows) positions =
    let new : Table PositionKey Position = with_replaced None r positions in
    both _ _
    (both _ _ (from_true _ (stays-made rows new (position_key r r.contract.counterparties.seller) (sells-with_replaced None r positions)))
    (from_true _ (stays-made rows new (position_key r r.contract.counterparties.buyer) (buys-with_replaced None r positions))))
    (made_named rows new)

pub made_anew_are_right : (tables : Registered)
    → IsTrue (are_positions_right tables (positions_by tables))
made_anew_are_right tables =
    let rows : List ContractRow = filter_map (row_in_force tables) tables.contracts in
    let positions : Table PositionKey Position = positions_by tables in
    are_right tables positions (record {
      table = made_table rows [] tt;
      nets = same_nets (λ q. pos 0 +ℤ total (part_of_row q) rows) (net_position tables) positions
          (λ q. +ℤ_idl (total (part_of_row q) rows) ∙ sym (net_is_rows tables q)) (made_are rows (λ q. pos 0) [] (λ q. refl));
      named = of_contracts positions tables tables.contracts (made_named rows []);
    })

-- an option, or otherwise None, is the option
or_nothing : (found : Option Position) → option_or found None ≡ found
or_nothing None = refl
or_nothing (Some position) = refl

pub made_anew_are_written : MadeAnewAreWritten
made_anew_are_written rows =
    let made : Table PositionKey Position = positions_of rows [] in
    let sorted : T (is_sorted position_key_cmp made) = made_table rows [] tt in
    same_entries position_key_cmp position_key_total exact_position_keys (put_all position_key_cmp made []) made
    (is_sorted-put_all position_key_total made [] tt) sorted
    (λ q. found_changed made [] q sorted ∙ or_nothing (find position_key_cmp q made))

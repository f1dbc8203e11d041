-- Positions that are right stay so with each accepted row.
use Rattle.std.proofs.Common.{◌≡◌, ℕ, ◌+◌, List, [], ◌∷◌, ◌++◌, map, refl, ap, sym, subst, ◌∙◌, Bool, true, false, cond, Option, Some, None, append_assoc}
use Rattle.std.specs.Prelude.{ℤ, filter, is_some, IsSome, T, IsTrue}
use Rattle.std.specs.FinMap.{find, is_sorted}
use Rattle.std.proofs.lemmas.List.{append-nil}
use Rattle.std.proofs.lemmas.Option.{same_Some}
use Rattle.hh_tables.specs.Tables.{Table, latest}
use Rattle.hh_tables.proofs.TableLaws.{is_sorted-in_key_order}
use Rattle.hh_time.specs.Days.{Midnights}
use Rattle.hh_names.specs.declared.fault.Fault.{Fault}
use Rattle.hh_names.specs.declared.fault.Refusal.{Refusal}
use Rattle.hh_names.specs.declared.values.Counterparties.{Counterparties}
use Rattle.hh_names.specs.Accounts.{bytes_cmp}
use Rattle.hh_names.specs.CounterpartyRule.{is_moved}
use Rattle.hh_names.specs.Faults.{first_met, row_fault}
use Rattle.hh_rows.specs.Keys.{contract_key_cmp}
use Rattle.hh_rows.specs.declared.keys.ContractKey.{ContractKey}
use Rattle.hh_rows.specs.declared.rows.ContractRow.{ContractRow}
use Rattle.hh_rows.specs.declared.rows.Row.{Row}
use Rattle.hh_rows.specs.declared.rows.Row.TheVariants as row
use Rattle.hh_rows.proofs.KeyLaws.{contract_key_total, exact_contract_keys}
use Rattle.hh_rules.specs.declared.timing.Timing.{Timing}
use Rattle.hh_rules.specs.Effects.{with_row}
use Rattle.hh_rules.specs.Entries.{contract_entry}
use Rattle.hh_rules.specs.FileRows.{first_fault, refusal_after, timely_rows}
use Rattle.hh_rules.specs.History.{History, Registered, entries_of, registered_in}
use Rattle.hh_rules.specs.Lateness.{Accepted, Timetable, is_in_time, timing_of}
use Rattle.hh_rules.specs.Positions.{position_in, with_replaced}
use Rattle.hh_rules.specs.Refusals.{contract_refusals, refusals_of, whole_standing}
use Rattle.hh_rules.specs.declared.positions.Position.{Position}
use Rattle.hh_rules.specs.declared.positions.PositionKey.{PositionKey}
use Rattle.hh_rules.proofs.HistoryLaws.{looks_back}
use Rattle.hh_runs.specs.declared.run_key.RunKey.{RunKey}
use Rattle.hh_states.specs.Steps.{CanLoad, IsReached, Load, after_load, after_run, rows_coming, timetable_at}
use Rattle.hh_successions.proofs.LookBackLaws.{none_met}
use Rattle.hh_state_laws.proofs.ConsistentLaws.{reached_consistent}
use Rattle.hh_state_laws.proofs.PutLaws.{keys-put}
use Rattle.hh_states.specs.Beside.{are_positions_right, net_position}
use Rattle.hh_states.specs.Changes.{load_change}
use Rattle.hh_states.specs.States.{State}
use Rattle.hh_states.specs.Content.{tables_of}
use Rattle.hh_beside.specs.Keeping.{positions_with, replaced_by}
use Rattle.hh_beside.specs.PositionLaws.{KnownIsNet}
use Rattle.hh_beside.proofs.PositionLists.{AreRight, HasBoth, are_right, right_are}
use Rattle.hh_beside.proofs.PositionNets.{AreFixed, late_fixed, late_same, own_reference, reference_stays, timely_fixed, timely_more}
use Rattle.hh_beside.proofs.PositionTables.{IsOf, buys-with_replaced, sells-with_replaced, stays-with_replaced, with_contract_are, with_replaced_table}

-- a known position is its net position
pub known_is_net : KnownIsNet
known_is_net tables positions key net right known = subst (IsOf (net_position tables key)) known ((right_are tables positions right).nets key)

-- the positions after a row, by whether the row is in time
abbrev positions_after : Row → Bool → Table ContractKey ℤ → Table PositionKey Position → Table PositionKey Position
positions_after (row.Contract r) true volumes positions = with_replaced (replaced_by r volumes) r positions
positions_after (row.Contract r) false volumes positions = positions
positions_after (row.Party r) in_time volumes positions = positions
positions_after (row.Unit r) in_time volumes positions = positions
positions_after (row.Meter r) in_time volumes positions = positions
positions_after (row.Price r) in_time volumes positions = positions
positions_after (row.Reallocation r) in_time volumes positions = positions

-- the positions after several rows are those after the first and then the others
one_row : (in_time : Bool) (r : Row) (rows : List Row) (tables : Registered) (positions : Table PositionKey Position)
    → positions_with (cond in_time (r ∷ rows) rows) tables.contracts positions ≡ positions_with rows (with_row in_time r tables).contracts (positions_after r in_time tables.contracts positions)
one_row true (row.Party r) rows tables positions = refl
one_row true (row.Unit r) rows tables positions = refl
one_row true (row.Meter r) rows tables positions = refl
one_row true (row.Price r) rows tables positions = refl
one_row true (row.Contract r) rows tables positions = refl
one_row true (row.Reallocation r) rows tables positions = refl
one_row false (row.Party r) rows tables positions = refl
one_row false (row.Unit r) rows tables positions = refl
one_row false (row.Meter r) rows tables positions = refl
one_row false (row.Price r) rows tables positions = refl
one_row false (row.Contract r) rows tables positions = refl
one_row false (row.Reallocation r) rows tables positions = refl

-- a contract row has the counterparties of its reference, if it is known
abbrev IsUnmoved : Registered → Row → Type 0
IsUnmoved tables (row.Contract r) = is_moved (find bytes_cmp r.key.reference tables.references) r.contract.counterparties ≡ false
IsUnmoved tables _ = Unit {0}

-- this holds for an accepted row
unmoved : (tables : Registered) (timing : Timing) (r : Row) → first_met (refusals_of (whole_standing tables) timing r) ≡ None → IsUnmoved tables r
unmoved tables timing (row.Party r) accepted = tt
unmoved tables timing (row.Unit r) accepted = tt
unmoved tables timing (row.Meter r) accepted = tt
unmoved tables timing (row.Price r) accepted = tt
unmoved tables timing (row.Contract r) accepted = (none_met (contract_refusals (whole_standing tables) timing r) accepted).1.1.1.1.0
unmoved tables timing (row.Reallocation r) accepted = tt

module _ (tables : Registered) (positions : Table PositionKey Position) (fixed : AreFixed tables) (are : AreRight tables positions) where
  module _ (r : ContractRow) where
    -- the seller and buyer of each contract in force have positions, by the references after the row
    named_then : (key : ContractKey) → IsSome (find contract_key_cmp key tables.contracts)
        → (c : Counterparties) → find bytes_cmp key.reference (with_row false (row.Contract r) tables).references ≡ Some c → HasBoth positions key.at c
    named_then key there c is =
        elim (find bytes_cmp key.reference tables.references) as (λ o. find bytes_cmp key.reference tables.references ≡ o → IsSome o → HasBoth positions key.at c) [
          | None ↦ λ none some. cc
          | Some d ↦ λ found some. are.named key there c (found ∙ sym (reference_stays tables fixed r key.reference d found) ∙ is)
        ] refl (fixed key there)

    -- a late row changes no position
    with_late : AreRight (with_row false (row.Contract r) tables) positions
    with_late = record {
      table = are.table;
      nets = λ key. subst (λ z. IsOf z (position_in positions key)) (sym (late_same tables fixed r key)) (are.nets key);
      named = named_then;
    }

    -- a row in time changes the positions of its seller and its buyer
    with_timely : is_moved (find bytes_cmp r.key.reference tables.references) r.contract.counterparties ≡ false → T (is_sorted contract_key_cmp tables.contracts)
        → AreRight (with_row true (row.Contract r) tables) (with_replaced (replaced_by r tables.contracts) r positions)
    with_timely same sorted =
        let old : Option ContractRow = replaced_by r tables.contracts in
        let new : Table PositionKey Position = with_replaced old r positions in
        record {
          table = with_replaced_table old r positions are.table;
          nets = λ key. subst (λ z. IsOf z (position_in new key)) (sym (timely_more tables fixed r same key sorted)) (with_contract_are old r positions (net_position tables) are.nets key);
          named = keys-put contract_key_total exact_contract_keys
              (λ k. (c : Counterparties) → find bytes_cmp k.reference (with_row true (row.Contract r) tables).references ≡ Some c → HasBoth new k.at c) r.key r.contract.volume tables.contracts
              (λ c is. subst (HasBoth new r.key.at) (same_Some r.contract.counterparties c (sym (own_reference tables fixed r same) ∙ is))
              (sells-with_replaced old r positions, buys-with_replaced old r positions))
              (λ k there c is.
              let both = named_then k there c is in
              (stays-with_replaced old r positions (record { at = k.at; account = c.seller }) both.0, stays-with_replaced old r positions (record { at = k.at; account = c.buyer }) both.1));
        }

  -- the same for a row of any kind
  with_any : (in_time : Bool) (r : Row) → IsUnmoved tables r → T (is_sorted contract_key_cmp tables.contracts) → AreRight (with_row in_time r tables) (positions_after r in_time tables.contracts positions)
  with_any in_time (row.Party r) same sorted = record { table = are.table; nets = are.nets; named = are.named }
  with_any in_time (row.Unit r) same sorted = record { table = are.table; nets = are.nets; named = are.named }
  with_any in_time (row.Meter r) same sorted = record { table = are.table; nets = are.nets; named = are.named }
  with_any in_time (row.Price r) same sorted = record { table = are.table; nets = are.nets; named = are.named }
  with_any true (row.Contract r) same sorted = with_timely r same sorted
  with_any false (row.Contract r) same sorted = with_late r
  with_any in_time (row.Reallocation r) same sorted = record { table = are.table; nets = are.nets; named = are.named }

-- the reference of each contract in force stays fixed
still_fixed : (tables : Registered) → AreFixed tables → (in_time : Bool) (r : Row) → IsUnmoved tables r → AreFixed (with_row in_time r tables)
still_fixed tables fixed in_time (row.Party r) same = fixed
still_fixed tables fixed in_time (row.Unit r) same = fixed
still_fixed tables fixed in_time (row.Meter r) same = fixed
still_fixed tables fixed in_time (row.Price r) same = fixed
still_fixed tables fixed true (row.Contract r) same = timely_fixed tables fixed r same
still_fixed tables fixed false (row.Contract r) same = late_fixed tables fixed r
still_fixed tables fixed in_time (row.Reallocation r) same = fixed

-- the contracts of a history are a table
contracts_rise : (timetable : Timetable) (history : History) → T (is_sorted contract_key_cmp (registered_in timetable history).contracts)
contracts_rise timetable history = is_sorted-in_key_order contract_key_total (latest contract_key_cmp (entries_of contract_entry (filter (is_in_time timetable) history)))

-- the fault of the first row that is refused: of this row, or of a later one
abbrev told : ℕ → Option Refusal → Option Fault → Option Fault
told n why later = elim why [ Some r ↦ Some (row_fault r n) | None ↦ later ]

-- the first of the rows in time, and the others
first_timely : (timetable : Timetable) (a : Accepted) (rows : History)
    → timely_rows timetable (a ∷ rows) ≡ cond (is_in_time timetable a) (a.row ∷ timely_rows timetable rows) (timely_rows timetable rows)
first_timely timetable a rows =
    let others : History = filter (is_in_time timetable) rows in
    elim (is_in_time timetable a) as (λ b. map (λ (x : Accepted). x.row) (cond b (a ∷ others) others) ≡ cond b (a.row ∷ timely_rows timetable rows) (timely_rows timetable rows)) [
      | true ↦ refl
      | false ↦ refl
    ]

-- right positions stay right after rows that are all accepted
rows_right : (timetable : Timetable) (rows history : History) (n : ℕ) (positions : Table PositionKey Position) → first_fault timetable history n rows ≡ None
    → AreFixed (registered_in timetable history) → AreRight (registered_in timetable history) positions
    → AreRight (registered_in timetable (history ++ rows)) (positions_with (timely_rows timetable rows) (registered_in timetable history).contracts positions)
rows_right timetable [] history n positions none fixed are = subst (λ h. AreRight (registered_in timetable h) positions) (sym (append-nil history)) are
rows_right timetable (a ∷ rows) history n positions none fixed are =
    elim (refusal_after timetable history a) as (λ o. refusal_after timetable history a ≡ o
    → told n o (first_fault timetable (history ++ a ∷ []) (n + 1) rows) ≡ None
    → AreRight (registered_in timetable (history ++ a ∷ rows)) (positions_with (timely_rows timetable (a ∷ rows)) (registered_in timetable history).contracts positions)) [
      | Some why ↦ λ is refused. cc
      | None ↦ λ is later.
          let tables : Registered = registered_in timetable history in
          let in_time : Bool = is_in_time timetable a in
          let others : List Row = timely_rows timetable rows in
          let next : registered_in timetable (history ++ a ∷ []) ≡ with_row in_time a.row tables = looks_back timetable history a in
          let same : IsUnmoved tables a.row = unmoved tables (timing_of timetable a) a.row is in
          let new : Table PositionKey Position = positions_after a.row in_time tables.contracts positions in
          let now : AreRight (registered_in timetable (history ++ a ∷ [])) new =
          subst (λ t. AreRight t new) (sym next) (with_any tables positions fixed are in_time a.row same (contracts_rise timetable history)) in
          let still : AreFixed (registered_in timetable (history ++ a ∷ [])) = subst AreFixed (sym next) (still_fixed tables fixed in_time a.row same) in
          let rest : AreRight (registered_in timetable ((history ++ a ∷ []) ++ rows)) (positions_with others (registered_in timetable (history ++ a ∷ [])).contracts new) =
          rows_right timetable rows (history ++ a ∷ []) (n + 1) new later still now in
          let one : positions_with others (registered_in timetable (history ++ a ∷ [])).contracts new ≡ positions_with (timely_rows timetable (a ∷ rows)) tables.contracts positions =
          ap (λ (t : Registered). positions_with others t.contracts new) next
          ∙ sym (one_row in_time a.row others tables positions)
          ∙ ap (λ l. positions_with l tables.contracts positions) (sym (first_timely timetable a rows)) in
          subst (λ h. AreRight (registered_in timetable h) (positions_with (timely_rows timetable (a ∷ rows)) tables.contracts positions)) (append_assoc history (a ∷ []) rows)
          (subst (AreRight (registered_in timetable ((history ++ a ∷ []) ++ rows))) one rest)
    ] refl none

-- and so after an accepted load
pub loads_keep_positions : (midnight : Midnights) (s : State) (load : Load) (positions : Table PositionKey Position)
    → IsReached midnight s → CanLoad midnight s load → IsTrue (are_positions_right (tables_of midnight s).registered positions)
    → IsTrue (are_positions_right (tables_of midnight (after_load midnight s load)).registered
    (positions_with (load_change midnight s load).rows (tables_of midnight s).registered.contracts positions))
loads_keep_positions midnight s load positions reached can right =
    let timetable : Timetable = timetable_at midnight s in
    let consistent = reached_consistent midnight s reached in
    are_right _ _
    (rows_right timetable (rows_coming load) s.history 1 positions can.accepted (λ key there. ap is_some (consistent.contracts key there).fixed)
    (right_are (registered_in timetable s.history) positions right))

-- a run leaves them as they are
pub runs_keep_positions : (midnight : Midnights) (s : State) (key : RunKey) (positions : Table PositionKey Position)
    → IsTrue (are_positions_right (tables_of midnight s).registered positions)
    → IsTrue (are_positions_right (tables_of midnight (after_run s key)).registered positions)
runs_keep_positions midnight s key positions right = right

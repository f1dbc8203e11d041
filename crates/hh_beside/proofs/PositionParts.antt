-- Parts of what is in force, and parts of the positions.
use Rattle.std.proofs.Common.{◌≡◌, List, [], ◌∷◌, refl, ap, sym, ◌∙◌, cond, Option, Some, None}
use Rattle.std.specs.Prelude.{ℤ, pos, ◌-ℤ◌, option_map, All}
use Rattle.std.specs.FinMap.{find, put}
use Rattle.std.specs.FinMap.Entries.{find-put, same_entries}
use Rattle.std.specs.List.{AllByRecursion}
use Rattle.std.specs.Option.{option_or}
use Rattle.std.specs.Ordering.{eq_by_cmp}
use Rattle.std.proofs.lemmas.List.Elements.{recursion_from_All}
use Rattle.hh_tables.specs.Tables.{IsTable, Table, put_all}
use Rattle.hh_tables.proofs.MergeLaws.{from_true, true_from}
use Rattle.hh_tables.proofs.RowLaws.{is_sorted-put_all}
use Rattle.hh_rows.specs.Keys.{contract_key_cmp}
use Rattle.hh_rows.specs.declared.keys.ContractKey.{ContractKey}
use Rattle.hh_rows.specs.declared.rows.Row.{Row}
use Rattle.hh_rows.specs.declared.rows.Row.TheVariants as row
use Rattle.hh_rows.proofs.KeyLaws.{contract_key_total}
use Rattle.hh_rules.specs.History.{Registered}
use Rattle.hh_rules.specs.Positions.{with_moved, position_in, position_key, position_key_cmp, position_plus, volume_of, with_replaced}
use Rattle.hh_rules.specs.RegisterView.{AgreesOn}
use Rattle.hh_rules.specs.declared.positions.Position.{Position}
use Rattle.hh_rules.specs.declared.positions.PositionKey.{PositionKey}
use Rattle.hh_beside.specs.Keeping.{positions_with, replaced_by}
use Rattle.hh_beside.specs.PositionLaws.{AgreesOnPositions, ArePartOf, PartsServe}
use Rattle.hh_beside.proofs.PositionKeys.{exact_position_keys, position_key_total}
use Rattle.hh_beside.proofs.PositionTables.{moved_table, position_in-moved}
use Rattle.hh_beside.proofs.PositionWrites.{found_changed, one_more_changed}

-- ---- parts of what is in force

-- both have the same volume under the key of a contract row
abbrev IsOneVolume : Table ContractKey ℤ → Table ContractKey ℤ → Row → Type 0
IsOneVolume volumes others (row.Contract r) = find contract_key_cmp r.key volumes ≡ find contract_key_cmp r.key others
IsOneVolume volumes others _ = Unit {0}

-- this holds for two registers that agree on the row
one_volume : (whole part : Registered) (r : Row) → AgreesOn whole part r → IsOneVolume part.contracts whole.contracts r
one_volume whole part (row.Party r) agrees = tt
one_volume whole part (row.Unit r) agrees = tt
one_volume whole part (row.Meter r) agrees = tt
one_volume whole part (row.Price r) agrees = tt
one_volume whole part (row.Contract r) agrees = agrees.3
one_volume whole part (row.Reallocation r) agrees = tt

-- and it still does after the same volume is put into both
module _ (volumes others : Table ContractKey ℤ) (key : ContractKey) (volume : ℤ) where
  still_one : (r : Row) → IsOneVolume volumes others r → IsOneVolume (put contract_key_cmp key volume volumes) (put contract_key_cmp key volume others) r
  still_one (row.Party r) one = tt
  still_one (row.Unit r) one = tt
  still_one (row.Meter r) one = tt
  still_one (row.Price r) one = tt
  still_one (row.Contract r) one =
      find-put contract_key_cmp contract_key_total r.key key volume volumes
      ∙ ap (cond (eq_by_cmp contract_key_cmp r.key key) (Some volume)) one
      ∙ sym (find-put contract_key_cmp contract_key_total r.key key volume others)
  still_one (row.Reallocation r) one = tt

  all_still_one : (rows : List Row) → AllByRecursion (IsOneVolume volumes others) rows
      → AllByRecursion (IsOneVolume (put contract_key_cmp key volume volumes) (put contract_key_cmp key volume others)) rows
  all_still_one [] all = tt
  all_still_one (r ∷ rows) all = (still_one r all.0, all_still_one rows all.1)

-- so both give the same positions after rows
by_both : (rows : List Row) (volumes others : Table ContractKey ℤ) (positions : Table PositionKey Position) → AllByRecursion (IsOneVolume volumes others) rows
    → positions_with rows volumes positions ≡ positions_with rows others positions
by_both [] volumes others positions all = refl
by_both (row.Party r ∷ rows) volumes others positions all = by_both rows volumes others positions all.1
by_both (row.Unit r ∷ rows) volumes others positions all = by_both rows volumes others positions all.1
by_both (row.Meter r ∷ rows) volumes others positions all = by_both rows volumes others positions all.1
by_both (row.Price r ∷ rows) volumes others positions all = by_both rows volumes others positions all.1
by_both (row.Contract r ∷ rows) volumes others positions all =
    by_both rows (put contract_key_cmp r.key r.contract.volume volumes) (put contract_key_cmp r.key r.contract.volume others) (with_replaced (replaced_by r volumes) r positions)
    (all_still_one volumes others r.key r.contract.volume rows all.1)
    ∙ ap (λ o. positions_with rows (put contract_key_cmp r.key r.contract.volume others) (with_replaced (option_map (λ v. record r { contract = record r.contract { volume = v } }) o) r positions)) all.0
by_both (row.Reallocation r ∷ rows) volumes others positions all = by_both rows volumes others positions all.1

all_one_volume : (whole part : Registered) (rows : List Row) → AllByRecursion (AgreesOn whole part) rows → AllByRecursion (IsOneVolume part.contracts whole.contracts) rows
all_one_volume whole part [] all = tt
all_one_volume whole part (r ∷ rows) all = (one_volume whole part r all.0, all_one_volume whole part rows all.1)

pub parts_give_positions : (rows : List Row) (whole part : Registered) (positions : Table PositionKey Position)
    → All (AgreesOn whole part) rows
    → positions_with rows part.contracts positions ≡ positions_with rows whole.contracts positions
parts_give_positions rows whole part positions all =
    by_both rows part.contracts whole.contracts positions (all_one_volume whole part rows (recursion_from_All (AgreesOn whole part) rows all))

-- ---- parts of the positions

-- a volume is added to a position that is the same in the part and in the whole
module _ (whole part : Table PositionKey Position) (key : PositionKey) (volume : ℤ) (same : position_in part key ≡ position_in whole key) where
  -- then each other position that was the same still is
  same_once_moved : (q : PositionKey) → position_in part q ≡ position_in whole q → position_in (with_moved key volume part) q ≡ position_in (with_moved key volume whole) q
  same_once_moved q one =
      position_in-moved key volume part q
      ∙ (λ i. cond (eq_by_cmp position_key_cmp q key) (position_plus volume (same i)) (one i))
      ∙ sym (position_in-moved key volume whole q)

  -- and so are the positions that a row needs
  agrees_once_moved : (r : Row) → AgreesOnPositions whole part r → AgreesOnPositions (with_moved key volume whole) (with_moved key volume part) r
  agrees_once_moved (row.Party r) agrees = tt
  agrees_once_moved (row.Unit r) agrees = tt
  agrees_once_moved (row.Meter r) agrees = tt
  agrees_once_moved (row.Price r) agrees = tt
  agrees_once_moved (row.Contract r) agrees = (
    same_once_moved (position_key r r.contract.counterparties.seller) agrees.0,
    same_once_moved (position_key r r.contract.counterparties.buyer) agrees.1,
  )
  agrees_once_moved (row.Reallocation r) agrees = tt

  all_agree_once_moved : (rows : List Row) → AllByRecursion (AgreesOnPositions whole part) rows
      → AllByRecursion (AgreesOnPositions (with_moved key volume whole) (with_moved key volume part)) rows
  all_agree_once_moved [] all = tt
  all_agree_once_moved (r ∷ rows) all = (agrees_once_moved r all.0, all_agree_once_moved rows all.1)

  -- if putting the part into a table gives the whole, it still does
  makes_once_moved : (table : Table PositionKey Position) → IsTable position_key_cmp table → IsTable position_key_cmp part → put_all position_key_cmp part table ≡ whole
      → put_all position_key_cmp (with_moved key volume part) table ≡ with_moved key volume whole
  makes_once_moved table h k makes =
      one_more_changed part table key (position_plus volume (position_in part key)) k h
      ∙ (λ i. put position_key_cmp key (position_plus volume (same i)) (makes i))

-- if putting a part into a table gives the whole, it still does after rows for which the part serves
serves : (rows : List Row) (volumes : Table ContractKey ℤ) (table whole part : Table PositionKey Position) → IsTable position_key_cmp table → IsTable position_key_cmp part
    → put_all position_key_cmp part table ≡ whole → AllByRecursion (AgreesOnPositions whole part) rows
    → put_all position_key_cmp (positions_with rows volumes part) table ≡ positions_with rows volumes whole
serves [] volumes table whole part h k makes all = makes
serves (row.Party r ∷ rows) volumes table whole part h k makes all = serves rows volumes table whole part h k makes all.1
serves (row.Unit r ∷ rows) volumes table whole part h k makes all = serves rows volumes table whole part h k makes all.1
serves (row.Meter r ∷ rows) volumes table whole part h k makes all = serves rows volumes table whole part h k makes all.1
serves (row.Price r ∷ rows) volumes table whole part h k makes all = serves rows volumes table whole part h k makes all.1
serves (row.Contract r ∷ rows) volumes table whole part h k makes all =
    let more : ℤ = r.contract.volume -ℤ volume_of (replaced_by r volumes) in
    let sells : PositionKey = position_key r r.contract.counterparties.seller in
    let buys : PositionKey = position_key r r.contract.counterparties.buyer in
    let sold : Table PositionKey Position = with_moved sells more part in
    let all_sold : Table PositionKey Position = with_moved sells more whole in
    let then_same : position_in sold buys ≡ position_in all_sold buys = same_once_moved whole part sells more all.0.0 buys all.0.1 in
    let rising : IsTable position_key_cmp sold = true_from _ (moved_table sells more part (from_true _ k)) in
    serves rows (put contract_key_cmp r.key r.contract.volume volumes) table (with_moved buys (pos 0 -ℤ more) all_sold) (with_moved buys (pos 0 -ℤ more) sold) h
    (true_from _ (moved_table buys (pos 0 -ℤ more) sold (from_true _ rising)))
    (makes_once_moved all_sold sold buys (pos 0 -ℤ more) then_same table h rising (makes_once_moved whole part sells more all.0.0 table h k makes))
    (all_agree_once_moved all_sold sold buys (pos 0 -ℤ more) then_same rows (all_agree_once_moved whole part sells more all.0.0 rows all.1))
serves (row.Reallocation r ∷ rows) volumes table whole part h k makes all = serves rows volumes table whole part h k makes all.1

-- what is found in a part, or otherwise in its whole, is what is found in the whole
found_either : (found here : Option Position) → ((p : Position) → found ≡ Some p → here ≡ Some p) → option_or found here ≡ here
found_either None here same = refl
found_either (Some p) here same = sym (same p refl)

-- putting a part into its whole gives the whole
part_makes : (whole part : Table PositionKey Position) → IsTable position_key_cmp whole → IsTable position_key_cmp part → ArePartOf whole part → put_all position_key_cmp part whole ≡ whole
part_makes whole part h k inside =
    same_entries position_key_cmp position_key_total exact_position_keys (put_all position_key_cmp part whole) whole
    (is_sorted-put_all position_key_total part whole (from_true _ h)) (from_true _ h)
    (λ q. found_changed part whole q (from_true _ k)
    ∙ found_either (find position_key_cmp q part) (find position_key_cmp q whole) (inside q))

pub parts_serve : PartsServe
parts_serve rows volumes whole part h k inside all =
    serves rows volumes whole whole part h k (part_makes whole part h k inside) (recursion_from_All (AgreesOnPositions whole part) rows all)

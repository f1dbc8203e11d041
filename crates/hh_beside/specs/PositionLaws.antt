-- Known positions are the sums of the contracts in force; and the net volumes that they give a Settlement Period.
use Rattle.std.specs.Prelude.{◌≡◌, ℤ, pos, List, [], map, Bool, true, false, All, Some, IsTrue}
use Rattle.std.specs.FinMap.{find}
use Rattle.std.specs.List.{list_all}
use Rattle.hh_num.specs.Totals.{total}
use Rattle.hh_tables.specs.Tables.{IsTable, Table, put_all}
use Rattle.hh_time.specs.Days.{Midnights}
use Rattle.hh_names.specs.declared.account.Account.{Account}
use Rattle.hh_rows.specs.declared.rows.ContractRow.{ContractRow}
use Rattle.hh_rows.specs.declared.rows.Row.{Row}
use Rattle.hh_rows.specs.declared.rows.Row.TheVariants as row
use Rattle.hh_rows.specs.declared.settlement_period.SettlementPeriod.{SettlementPeriod}
use Rattle.hh_rows.specs.declared.keys.ContractKey.{ContractKey}
use Rattle.hh_rules.specs.History.{Registered}
use Rattle.hh_rules.specs.Positions.{position_in, position_key, position_key_cmp}
use Rattle.hh_rules.specs.declared.positions.Position.{Position}
use Rattle.hh_rules.specs.declared.positions.Position.TheVariants.{Known, Lost}
use Rattle.hh_rules.specs.declared.positions.PositionKey.{PositionKey}
use Rattle.hh_states.specs.Content.{tables_of}
use Rattle.hh_states.specs.PeriodSettlement.{accounts_on}
use Rattle.hh_states.specs.States.{State}
use Rattle.hh_states.specs.Steps.{IsReached}
use Rattle.hh_states.specs.Beside.{are_positions_right, net_position}
use Rattle.hh_beside.specs.Keeping.{positions_of, positions_with}

-- a known position is the sum of the contracts in force; an account without one counts as 0
abbrev pub KnownIsNet : Type 0
KnownIsNet = (tables : Registered) (positions : Table PositionKey Position) (key : PositionKey) (net : ℤ)
    → IsTrue (are_positions_right tables positions) → position_in positions key ≡ Known net → net ≡ net_position tables key

-- writing positions that are made anew from contracts into an empty table gives these positions
abbrev pub MadeAnewAreWritten : Type 0
MadeAnewAreWritten = (rows : List ContractRow) → put_all position_key_cmp (positions_of rows []) [] ≡ positions_of rows []

-- ---- the net volumes of a Settlement Period

-- the key of an account's position in a Settlement Period
abbrev pub position_key_at : SettlementPeriod → Account → PositionKey
position_key_at at account = record { at = at; account = account }

-- a position is known
abbrev pub is_known : Position → Bool
is_known (Known net) = true
is_known Lost = false

-- the net volume of a position; a lost position counts as 0
abbrev pub volume_in : Position → ℤ
volume_in (Known net) = net
volume_in Lost = pos 0

module _ (positions : Table PositionKey Position) (at : SettlementPeriod) where
  -- the positions of these accounts in a Settlement Period are known
  abbrev pub are_known : List Account → Bool
  are_known = list_all (λ a. is_known (position_in positions (position_key_at at a)))

  -- the net volumes of these accounts in a Settlement Period
  abbrev pub net_volumes_at : List Account → List ℤ
  net_volumes_at = map (λ a. volume_in (position_in positions (position_key_at at a)))

-- the net volumes of a Settlement Period's accounts are the sums of the contracts in force, and they sum to zero
pub record AreNets (tables : Registered) (at : SettlementPeriod) (volumes : List ℤ) : Type 0 where
  pub exact : volumes ≡ map (λ a. net_position tables (position_key_at at a)) (accounts_on tables at.date)
  pub zero : total (λ v. v) volumes ≡ pos 0

-- if the positions are right, and those of a Settlement Period's accounts are known, they give its net volumes
abbrev pub KnownAreNets : Type 0
KnownAreNets = (midnight : Midnights) (s : State) (at : SettlementPeriod) (positions : Table PositionKey Position)
    → IsReached midnight s → IsTrue (are_positions_right (tables_of midnight s).registered positions)
    → IsTrue (are_known positions at (accounts_on (tables_of midnight s).registered at.date))
    → AreNets (tables_of midnight s).registered at
    (net_volumes_at positions at (accounts_on (tables_of midnight s).registered at.date))

-- ---- parts of the positions

module _ (whole part : Table PositionKey Position) where
  -- what is found in the part is found in the whole
  abbrev pub ArePartOf : Type 0
  ArePartOf = (key : PositionKey) (position : Position) → find position_key_cmp key part ≡ Some position
      → find position_key_cmp key whole ≡ Some position

  -- both have the same positions of the seller and the buyer of a contract row
  abbrev pub AgreesOnPositions : Row → Type 0
  AgreesOnPositions (row.Contract r) =
      (position_in part (position_key r r.contract.counterparties.seller)
      ≡ position_in whole (position_key r r.contract.counterparties.seller))
      × (position_in part (position_key r r.contract.counterparties.buyer)
      ≡ position_in whole (position_key r r.contract.counterparties.buyer))
  AgreesOnPositions _ = Unit {0}

-- A part of the positions serves for rows if it has those of each seller and buyer of them: putting the part after the rows into the
-- whole gives the positions after the rows.
abbrev pub PartsServe : Type 0
PartsServe = (rows : List Row) (volumes : Table ContractKey ℤ) (whole part : Table PositionKey Position)
    → IsTable position_key_cmp whole → IsTable position_key_cmp part → ArePartOf whole part → All (AgreesOnPositions whole part) rows
    → put_all position_key_cmp (positions_with rows volumes part) whole ≡ positions_with rows volumes whole

-- The positions that contract rows name, and which positions suffice for the rows.
use Rattle.std.specs.Prelude.{◌≡◌, true, Option, Some, None, List, All}
use Rattle.std.specs.BTreeSet.{BTreeSet, contains}
use Rattle.hh_tables.specs.Tables.{IsTable, Table}
use Rattle.hh_rows.specs.declared.rows.ContractRow.{ContractRow}
use Rattle.hh_rows.specs.declared.rows.Row.{Row}
use Rattle.hh_rows.specs.declared.rows.Row.TheVariants as row
use Rattle.hh_rules.specs.Positions.{position_key, position_key_cmp}
use Rattle.hh_rules.specs.declared.positions.Position.{Position}
use Rattle.hh_rules.specs.declared.positions.PositionKey.{PositionKey}
use Rattle.hh_kept_rows.specs.PositionLaws.{AgreesOnPositions, ArePartOf}

-- the key of the position of a contract's seller; a row of another kind has none
abbrev pub seller_of : Row → Option PositionKey
seller_of (row.Contract r) = Some (position_key r r.contract.counterparties.seller)
seller_of _ = None

-- the key of the position of a contract's buyer
abbrev pub buyer_of : Row → Option PositionKey
buyer_of (row.Contract r) = Some (position_key r r.contract.counterparties.buyer)
buyer_of _ = None

-- a set with the keys that another set has, and the keys of the positions of a contract row's seller and buyer
pub record HasBoth (r : ContractRow) (old new : BTreeSet PositionKey) : Type 0 where
  pub kept : (key : PositionKey) → contains position_key_cmp old key ≡ true → contains position_key_cmp new key ≡ true
  pub seller : contains position_key_cmp new (position_key r r.contract.counterparties.seller) ≡ true
  pub buyer : contains position_key_cmp new (position_key r r.contract.counterparties.buyer) ≡ true

-- a part of the positions with the position of each seller and buyer of rows
pub record ServesPositions (rows : List Row) (whole part : Table PositionKey Position) : Type 0 where
  pub rising : IsTable position_key_cmp part
  pub inside : ArePartOf whole part
  pub agrees : All (AgreesOnPositions whole part) rows

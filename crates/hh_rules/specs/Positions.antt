-- The contract positions of accounts: what each sells less what it buys in a Settlement Period.
use Rattle.std.specs.Prelude.{◌≡◌, ℤ, pos, ◌+ℤ◌, ◌-ℤ◌, Option, option_map, unwrap_or, if◌then◌else◌}
use Rattle.std.specs.FinMap.{find, put}
use Rattle.std.specs.Ordering.{on, then_cmp}
use Rattle.std.specs.declared.cmp.Ordering.{Ordering}
use Rattle.hh_rows.specs.Quantities.{net_volumes}
use Rattle.hh_rows.specs.Ranges.{is_between}
use Rattle.hh_tables.specs.Tables.{Table}
use Rattle.hh_names.specs.declared.account.Account.{Account}
use Rattle.hh_names.specs.Accounts.{account_cmp}
use Rattle.hh_rows.specs.Keys.{settlement_period_cmp}
use Rattle.hh_rows.specs.declared.rows.ContractRow.{ContractRow}
use Rattle.hh_rules.specs.declared.positions.Position.{Position}
use Rattle.hh_rules.specs.declared.positions.Position.TheVariants.{Known, Lost}
use Rattle.hh_rules.specs.declared.positions.PositionKey.{PositionKey}

-- positions in the order of their Settlement Periods, then of their accounts
abbrev pub position_key_cmp : PositionKey → PositionKey → Ordering
position_key_cmp = then_cmp (on (λ k. k.at) settlement_period_cmp) (on (λ k. k.account) account_cmp)

-- a net volume as a position: lost if it is greater than 100,000,000 MWh in size
abbrev pub position_of : ℤ → Position
position_of net = if is_between net_volumes.least net_volumes.most net then Known net else Lost

-- a position after a volume is added; a lost position stays lost
abbrev pub position_plus : ℤ → Position → Position
position_plus volume Lost = Lost
position_plus volume (Known net) = position_of (net +ℤ volume)

-- the position of a key; an account that has none has sold as much as it has bought
abbrev pub position_in : Table PositionKey Position → PositionKey → Position
position_in positions key = unwrap_or (find position_key_cmp key positions) (Known (pos 0))

-- the positions after a volume is added to that of one account
abbrev pub with_moved : PositionKey → ℤ → Table PositionKey Position → Table PositionKey Position
with_moved key volume positions = put position_key_cmp key (position_plus volume (position_in positions key)) positions

-- the volume of a contract row, 0 if there is no row
abbrev pub volume_of : Option ContractRow → ℤ
volume_of row = unwrap_or (option_map (λ r. r.contract.volume) row) (pos 0)

-- the key of the position of an account that a contract row names
abbrev pub position_key : ContractRow → Account → PositionKey
position_key row account = record { at = row.key.at; account = account }

-- a contract row replaces another only under its key, and with the same seller and buyer, which a reference never changes
abbrev pub TakesPlaceOf : ContractRow → ContractRow → Type 0
TakesPlaceOf new old = (old.key ≡ new.key) × (old.contract.counterparties ≡ new.contract.counterparties)

-- The positions after a contract row replaces the one of its key, if there is one: the old volume is taken off and the new
-- one put on, for the seller and against the buyer.
abbrev pub with_replaced : Option ContractRow → ContractRow → Table PositionKey Position → Table PositionKey Position
with_replaced old new positions =
    let more : ℤ = new.contract.volume -ℤ volume_of old in
    with_moved (position_key new new.contract.counterparties.buyer) (pos 0 -ℤ more)
    (with_moved (position_key new new.contract.counterparties.seller) more positions)

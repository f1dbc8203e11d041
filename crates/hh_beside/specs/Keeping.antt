-- What a load and a run change in what is kept beside the tables, and what is first kept beside tables that had nothing beside them.
use Rattle.std.specs.Prelude.{ℕ, ◌==◌, ℤ, List, [], ◌∷◌, ◌++◌, filter, filter_map, Bool, not, Option, Some, None, option_map}
use Rattle.std.specs.FinMap.{find, put}
use Rattle.std.specs.List.{flat_map, list_any}
use Rattle.hh_tables.specs.Tables.{Table}
use Rattle.hh_rows.specs.DateRanges.{Range, holds}
use Rattle.hh_rows.specs.Keys.{contract_key_cmp}
use Rattle.hh_rows.specs.declared.keys.ContractKey.{ContractKey}
use Rattle.hh_rows.specs.declared.rows.ContractRow.{ContractRow}
use Rattle.hh_rows.specs.declared.rows.Row.{Row}
use Rattle.hh_rows.specs.declared.rows.Row.TheVariants as row
use Rattle.hh_rows.specs.declared.settlement_period.SettlementPeriod.{SettlementPeriod}
use Rattle.hh_registrations.specs.Registrations.{Leads, succession_ranges}
use Rattle.hh_rules.specs.History.{Registered}
use Rattle.hh_rules.specs.Positions.{with_replaced}
use Rattle.hh_rules.specs.declared.positions.Position.{Position}
use Rattle.hh_rules.specs.declared.positions.PositionKey.{PositionKey}
use Rattle.hh_runs.specs.declared.run_key.RunKey.{RunKey}
use Rattle.hh_runs.specs.declared.summary.Summary.{Summary}
use Rattle.hh_states.specs.Changes.{LoadChangeView, RunChangeView}
use Rattle.hh_states.specs.Content.{Content}
use Rattle.hh_states.specs.DaySettlement.{periods_on}
use Rattle.hh_states.specs.PeriodSettlement.{row_in_force}
use Rattle.hh_states.specs.Beside.{Beside}

-- the Settlement Period that a row in time touches by itself, if it touches one
abbrev pub touched_by : Row → Option SettlementPeriod
touched_by (row.Party r) = None
touched_by (row.Unit r) = None
touched_by (row.Meter r) = Some r.key.at
touched_by (row.Price r) = Some r.at
touched_by (row.Contract r) = Some r.key.at
touched_by (row.Reallocation r) = Some r.key.unit_period.at

-- the contract row that this one replaces, by the volumes in force; a reference's seller and buyer never change
abbrev pub replaced_by : ContractRow → Table ContractKey ℤ → Option ContractRow
replaced_by r volumes = option_map (λ v. record r { contract = record r.contract { volume = v } }) (find contract_key_cmp r.key volumes)

-- the positions after rows in time, one after another; these volumes are in force before them
abbrev pub positions_with : List Row → Table ContractKey ℤ → Table PositionKey Position → Table PositionKey Position
positions_with [] volumes positions = positions
positions_with (row.Contract r ∷ rows) volumes positions =
    positions_with rows (put contract_key_cmp r.key r.contract.volume volumes) (with_replaced (replaced_by r volumes) r positions)
positions_with (_ ∷ rows) volumes positions = positions_with rows volumes positions

-- one of these ranges holds the date
abbrev pub is_held : List Range → ℕ → Bool
is_held ranges date = list_any (λ r. holds r date) ranges

-- each Settlement Period of these runs
abbrev pub periods_of_runs : Table RunKey Summary → List SettlementPeriod
periods_of_runs runs = flat_map (λ e. periods_on e.0.date e.1.periods) runs

-- the Settlement Periods that the successions among rows touch: all periods of those of their dates that have a run
abbrev pub touched_by_successions : List Row → Leads → Table RunKey Summary → List SettlementPeriod
touched_by_successions rows leads runs = periods_of_runs (filter (λ e. is_held (succession_ranges rows leads) e.0.date) runs)

-- what is kept after a load
abbrev pub beside_with_load : LoadChangeView → Content → Beside → Beside
beside_with_load w content beside = record {
  positions = positions_with w.rows content.registered.contracts beside.positions;
  touched = filter_map touched_by w.rows ++ (touched_by_successions w.rows content.registered.leads content.runs ++ beside.touched);
}

-- what is kept after a run: no period of its date is touched
abbrev pub beside_with_run : RunChangeView → Beside → Beside
beside_with_run w beside = record beside { touched = filter (λ at. not (at.date == w.key.date)) beside.touched }

-- the positions by contracts in force, one after the other
abbrev pub positions_of : List ContractRow → Table PositionKey Position → Table PositionKey Position
positions_of [] positions = positions
positions_of (r ∷ rows) positions = positions_of rows (with_replaced None r positions)

-- the positions by all contracts in force
abbrev pub positions_by : Registered → Table PositionKey Position
positions_by tables = positions_of (filter_map (row_in_force tables) tables.contracts) []

-- what is first kept beside tables: the positions by all contracts in force, and each Settlement Period of each run as
-- touched
abbrev pub beside_of : Content → Beside
beside_of content = record {
  positions = positions_by content.registered;
  touched = periods_of_runs content.runs;
}

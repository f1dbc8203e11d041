use Rattle.std.proofs.Common.{◌≡◌, IfOk, List, map, subst}
use Rattle.sqlite.specs.Held.{state}
use Rattle.hh_rows.specs.declared.settlement_period.SettlementPeriod.{SettlementPeriod}
use Rattle.hh_sqlrows.specs.no_columns.NoColumns.{NoColumns}
use Rattle.hh_sqlrows.specs.Forms.{rows_under_keys}
use Rattle.hh_sqlrows.specs.OfficeTables.{touched}
use Rattle.hh_sqlparts.proofs.TouchLaws.{periods_listed}
use Rattle.hh_sqlparts.proofs.day_beside.select_touched_on.Goals as goal

pub returns-clause-value : goal.returns-clause-value
returns-clause-value g c stands is =
    let old = state g.S.Store c.args.conn.now in
    let found = c.in_ok-found.found in
    periods_listed c.args.date.now (rows_under_keys touched old.now.trees) found.items c.periods_of.result (c.in_ok-found.ensures.value stands is)
    (subst (λ (rows : List (SettlementPeriod × NoColumns)). IfOk c.periods_of.result (λ periods. periods.items ≡ map (λ e. e.0) rows)) c.as_slice.ensures.value c.periods_of.ensures)

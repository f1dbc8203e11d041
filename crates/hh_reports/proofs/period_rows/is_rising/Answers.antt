use Rattle.std.proofs.Common.{◌≤◌, arith}
use Rattle.hh_reports.proofs.ReportLaws.{rises_on, stays_below}
use Rattle.hh_reports.proofs.period_rows.is_rising.Goals as goal

pub loop-row-preserved : goal.loop-row-preserved
loop-row-preserved c =
    let rows = c.args.rows.now in
    let i = c.loop-row.row-index in
    let row = c.row-item.result in
    let last = c.loop-row.last in
    let period = c.number-period.ensures.value in
    let higher : last ≤ row.0 = omega (arith, period, c.if-period-last.false) in
    record {
      rises = rises_on rows i row c.loop-row-test.true c.row-item.is last higher c.loop-row.invariant.below c.loop-row.invariant.rises;
      below = rw period (stays_below rows i row c.loop-row-test.true c.row-item.is last higher c.loop-row.invariant.below);
    }

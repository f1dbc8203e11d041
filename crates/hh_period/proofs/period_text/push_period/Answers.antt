use Rattle.std.proofs.Common.{arith, ap, length, ◌<◌}
use Rattle.hh_calc.specs.Settled.{figures_of}
use Rattle.hh_period.specs.PeriodText.{account_line}
use Rattle.hh_period.proofs.TextFacts.{lines_more}
use Rattle.hh_period.proofs.period_text.push_period.Goals as goal

pub loop-row-preserved : goal.loop-row-preserved
loop-row-preserved c =
    let inside : c.loop-row.row-index < length c.args.settled.now.accounts = omega (arith, ap length c.accounts-row-items.ensures) in
    let is = rw c.accounts-row-items.ensures at c.row-item.is in
    lines_more (λ r. account_line (figures_of r)) c.args.settled.now.accounts c.loop-row.row-index c.row-item.result inside is _ _ _ c.loop-row.invariant c.in_ok-push_account_line.ensures

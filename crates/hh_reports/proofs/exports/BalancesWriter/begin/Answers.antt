use Rattle.std.proofs.Common.{◌∙◌}
use Rattle.hh_reports.specs.Nets.{sum_for}
use Rattle.hh_reports.proofs.OutputLaws.{told_back}
use Rattle.hh_reports.proofs.WriterLaws.{balances_begun}
use Rattle.hh_reports.proofs.exports.BalancesWriter.begin.Goals as goal

pub returns-in_err-put : goal.returns-in_err-put
returns-in_err-put g c = λ postings has.
    told_back _ _ _ c.in_err-put.field-0.0 _ c.from_residual.ensures.1
    (rw (← balances_begun (λ a. sum_for a postings)) (rw c.new-page.ensures at c.in_err-put.ensures))

pub returns : goal.returns
returns g c = λ postings has.
    record { sums = c.into_table.ensures ∙ has.sums; sent = rw (← balances_begun (λ a. sum_for a postings)) (rw c.new-page.ensures at c.in_ok-put.ensures) }

use Rattle.std.proofs.Common.{[], ◌∷◌, ◌++◌, ◌∙◌, ap, arith, subst, sym, take}
use Rattle.std.proofs.lemmas.List.{take_more}
use Rattle.hh_kept_rows.specs.steps.KeptContracts.{AreByPeriod}
use Rattle.hh_kept_rows.proofs.contracts_by_period.by_period.Goals as goal

pub loop-row-preserved : goal.loop-row-preserved
loop-row-preserved c =
    let rows = c.args.rows.now in
    let i = c.loop-row.row-index in
    let row = c.row-item.result in
    let next = take_more rows i row (omega arith) ∙ ap (λ r. take i rows ++ r ∷ []) (sym c.row-item.is) in
    subst (λ rs. AreByPeriod rs c.push_row.new.periods.items) (sym next) (c.in_ok-push_row.ensures (take i rows) c.loop-row.invariant)

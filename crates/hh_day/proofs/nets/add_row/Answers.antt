use Rattle.std.proofs.Common.{sym, subst, ap, ◌∙◌}
use Rattle.std.specs.Prelude.{pos, ◌+ℤ◌, unwrap_or}
use Rattle.hh_calc.specs.Settled.{paid_by}
use Rattle.hh_day.specs.steps.RunParts.{AddsRow}
use Rattle.hh_day.proofs.NetLaws.{adds_row}
use Rattle.hh_day.proofs.nets.add_row.Goals as goal

pub returns-clause-added : goal.returns-clause-added
returns-clause-added c =
    subst (AddsRow c.args.row.now c.args.nets.now) (sym c.in_ok-put_near.ensures.ok)
    (adds_row c.args.nets.now c.args.row.now c.in-Some.net (c.in-Some.ensures.1 ∙ ap (λ net. unwrap_or net (pos 0) +ℤ paid_by c.args.row.now) c.get_near.ensures))

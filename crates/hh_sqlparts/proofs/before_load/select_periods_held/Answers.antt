use Rattle.std.proofs.Common.{◌≡◌, ◌∙◌, List, ap, subst, sym}
use Rattle.std.specs.Prelude.{IfOk, filter}
use Rattle.hh_runs.specs.declared.run_key.RunKey.{RunKey}
use Rattle.hh_runs.specs.declared.summary.Summary.{Summary}
use Rattle.hh_kept_rows.specs.Keeping.{is_held, periods_of_runs}
use Rattle.hh_sqlparts.proofs.UnitStepLaws.{none_without_ranges}
use Rattle.hh_sqlparts.proofs.before_load.select_periods_held.Goals as goal

pub returns-then-is_empty-clause-value : goal.returns-then-is_empty-clause-value
returns-then-is_empty-clause-value g c stands office settled =
    c.new.ensures.items ∙ sym (ap periods_of_runs (none_without_ranges c.args.ranges.now c.is_empty.result c.is_empty.ensures c.if-is_empty.true _))

pub returns-clause-value : goal.returns-clause-value
returns-clause-value g c stands office settled =
    subst (λ (made : List (RunKey × Summary)). IfOk c.periods_of_runs.result (λ found. found.items ≡ periods_of_runs made))
    (
    c.deref-2.ensures.value
    ∙ c.in_ok-held.ensures
    ∙ ap (filter (λ (e : RunKey × Summary). is_held c.args.ranges.now e.0.date)) (c.deref.ensures.value ∙ c.in_ok-made.ensures.value stands office)
    )
    c.periods_of_runs.ensures

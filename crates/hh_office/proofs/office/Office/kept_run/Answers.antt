use Rattle.std.proofs.Common.{ap, ◌∙◌}
use Rattle.std.specs.Prelude.{find, option_map}
use Rattle.std.specs.Ordering.{eq_by_cmp}
use Rattle.hh_runs.specs.RunKinds.{run_kind_cmp}
use Rattle.hh_office.proofs.RunLaws.{kept_of}
use Rattle.hh_office.proofs.office.Office.kept_run.Goals as goal

pub returns-clause-value : goal.returns-clause-value
returns-clause-value g c sure =
    c.summary_of.ensures
    ∙ ap (λ runs. option_map (λ r. r.1) (find (λ r. eq_by_cmp run_kind_cmp c.args.run.now.kind r.0) runs)) (c.deref.ensures.value ∙ c.in_ok-runs.ensures.value sure)
    ∙ kept_of c.args.run.now c.args.self.now.seen.content.runs

use Rattle.std.proofs.Common.{◌≡◌, ◌∙◌, ap, filter_map, subst, IfOk}
use Rattle.hh_states.specs.Reads.{result_in}
use Rattle.hh_plain_tables.specs.steps.KeptRuns.{RunTables}
use Rattle.hh_plain_tables.proofs.KeptRunLaws.{no_results, results_in_run}
use Rattle.hh_plain_tables.proofs.kept_runs.KeptRuns.results_of.Goals as goal

pub returns-in-Some : goal.returns-in-Some
returns-in-Some c =
    subst (λ found. IfOk c.results_of.result (λ rows. rows.items ≡ found))
    (ap (filter_map (result_in c.args.run.now)) c.rows.ensures.value
    ∙ results_in_run c.args.run.now c.self.inside.runs c.self.invariant c.in-Some.kept.now c.in-Some.ensures.value
    ∙ ap (λ (k : RunTables). filter_map (result_in c.args.run.now) k.results) c.self.view_is) c.results_of.ensures

pub returns-in-None : goal.returns-in-None
returns-in-None c =
    c.new.ensures.items
    ∙ no_results c.args.run.now c.self.inside.runs c.self.invariant c.in-None.ensures.value
    ∙ ap (λ (k : RunTables). filter_map (result_in c.args.run.now) k.results) c.self.view_is

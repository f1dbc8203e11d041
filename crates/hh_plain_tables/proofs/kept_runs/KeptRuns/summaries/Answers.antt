use Rattle.std.proofs.Common.{◌≡◌, ◌∙◌, ap, rules, subst, tests, IfOk}
use Rattle.std.proofs.lemmas.Iterator.{YieldsList-from_map, YieldsList-from_slice, items_from_collect}
use Rattle.hh_runs.specs.declared.run_key.RunKey.{RunKey}
use Rattle.hh_plain_tables.specs.declared.kept_run.KeptRun.{KeptRun}
use Rattle.hh_plain_tables.specs.steps.KeptRuns.{summaries_of, RunTables}
use Rattle.hh_plain_tables.proofs.kept_runs.KeptRuns.summaries.Goals as goal

pub returns : goal.returns
returns c =
    subst (λ runs. IfOk c.collect.result (λ all. all.items ≡ runs)) (ap summaries_of c.rows-runs.ensures.value ∙ ap (λ (k : RunTables). k.runs) c.self.view_is)
    (items_from_collect _ c.collect.ensures.ran (YieldsList-from_map _ (λ (e : RunKey × KeptRun). (e.0, e.1.summary)) (YieldsList-from_slice c.rows-runs.result.now cc) c.map.ensures.closure (λ x r q k. search (rules, tests))))

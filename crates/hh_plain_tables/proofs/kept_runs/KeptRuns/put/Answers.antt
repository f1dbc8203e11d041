use Rattle.std.proofs.Common.{◌≡◌, ◌∙◌, ap, subst, sym, None}
use Rattle.std.specs.FinMap.{find}
use Rattle.hh_states.specs.Changes.{RunChangeView}
use Rattle.hh_states.specs.Runs.{run_key_cmp}
use Rattle.hh_kept_rows.specs.OwnRows.{AreOwnRows}
use Rattle.hh_plain_tables.specs.steps.KeptRuns.{kept_with, summaries_of}
use Rattle.hh_plain_tables.proofs.KeptRunLaws.{all_own, kept_more, still_kept, tables_in}
use Rattle.hh_plain_tables.proofs.kept_runs.KeptRuns.put.Goals as goal

pub invariant_of-self-2 : goal.invariant_of-self-2
invariant_of-self-2 c =
    let rows = c.into_rows-rows.result in
    let w : RunChangeView = record { key = c.key-key.result; summary = c.summary-summary.result; results = rows.results.items; credits = rows.credits.items; postings = rows.postings.items } in
    let own : AreOwnRows w.key w.results w.credits w.postings = subst (λ k. AreOwnRows k w.results w.credits w.postings) (sym c.key-key.ensures) c.into_rows-rows.ensures.own in
    still_kept w c.in_ok-run.run' c.self.inside.runs c.put_run.new.runs c.self.invariant (all_own (λ k. k.run) w.key w.results own.result_keys) (all_own (λ k. k.run) w.key w.credits own.credit_keys) c.in_ok-run.ensures.results c.in_ok-run.ensures.credits c.in_ok-put_run.ensures.run

pub returns-clause-ok : goal.returns-clause-ok
returns-clause-ok c new =
    let rows = c.into_rows-rows.result in
    let w : RunChangeView = record { key = c.key-key.result; summary = c.summary-summary.result; results = rows.results.items; credits = rows.credits.items; postings = rows.postings.items } in
    let own : AreOwnRows w.key w.results w.credits w.postings = subst (λ k. AreOwnRows k w.results w.credits w.postings) (sym c.key-key.ensures) c.into_rows-rows.ensures.own in
    let absent : find run_key_cmp w.key (summaries_of c.self.inside.runs) ≡ None = (λ i. find run_key_cmp (c.key-key.ensures i) (c.self.view_is i).runs) ∙ new in
    kept_more w c.in_ok-run.run' c.self.inside.runs c.put_run.new.runs c.self.invariant (all_own (λ k. k.run) w.key w.results own.result_keys) (all_own (λ k. k.run) w.key w.credits own.credit_keys) c.in_ok-run.ensures.results c.in_ok-run.ensures.credits c.in_ok-put_run.ensures.run
    c.self.inside.postings c.put_run.new.postings absent c.in_ok-run.ensures.summary c.in_ok-put_run.ensures.postings
    ∙ (λ i. kept_with
    (record { key = c.key-key.ensures i; summary = c.summary-summary.ensures i; results = c.into_rows-rows.ensures.results i; credits = c.into_rows-rows.ensures.credits i; postings = c.into_rows-rows.ensures.postings i })
    (tables_in c.self.inside.runs c.self.inside.postings))
    ∙ ap (kept_with c.args.change) c.self.view_is

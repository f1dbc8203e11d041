use Rattle.std.proofs.Common.{ap, map, ◌∙◌}
use Rattle.std.specs.Prelude.{filter}
use Rattle.std.specs.Ordering.{eq_by_cmp}
use Rattle.sqlite.specs.Held.{state}
use Rattle.hh_states.specs.Runs.{run_key_cmp}
use Rattle.hh_sqlrows.specs.Contents.{result_of}
use Rattle.hh_sqlrows.specs.Forms.{rows_under_keys}
use Rattle.hh_sqlrows.specs.OfficeTables.{results}
use Rattle.hh_sqlparts.proofs.BesideLaws.{kept_made, of_run}
use Rattle.hh_sqlparts.proofs.day_beside.results_of_latest.Goals as goal

pub returns-in_ok-account_rows-in-Some-clause-value : goal.returns-in_ok-account_rows-in-Some-clause-value
returns-in_ok-account_rows-in-Some-clause-value g c stands office =
    let trees = (state g.S.Store c.args.conn.now).now.trees in
    let run = c.in-Some.run' in
    of_run (λ key. filter (λ e. eq_by_cmp run_key_cmp e.0.run key) (map result_of (rows_under_keys results trees))) c.args.latest.now run c.in-Some.is
    c.in_ok-account_rows-in-Some.field-0.items
    (c.in_ok-account_rows-in-Some.ensures ∙ ap (map result_of) (c.deref.ensures.value ∙ c.in_ok-amounts-in-Some.ensures.value stands office)
    ∙ kept_made (λ e. eq_by_cmp run_key_cmp e.0.run run.0) result_of (rows_under_keys results trees))
    c.table_of.result c.table_of.ensures.value

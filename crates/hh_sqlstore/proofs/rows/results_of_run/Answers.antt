use Rattle.std.proofs.Common.{◌∙◌, ap, map}
use Rattle.sqlite.specs.Held.{state}
use Rattle.hh_sqlrows.specs.Contents.{period_row}
use Rattle.hh_sqlstore.proofs.ReadLaws.{results_picked}
use Rattle.hh_sqlstore.proofs.rows.results_of_run.Goals as goal

pub returns-clause-value : goal.returns-clause-value
returns-clause-value g c stands office settled =
    c.in_ok-rows_by_period.ensures ∙ ap (map period_row) (c.deref.ensures.value ∙ c.in_ok-rows.ensures.value stands office) ∙ results_picked c.args.run.now (state g.S.Store c.args.conn.now).now.trees

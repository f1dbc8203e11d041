use Rattle.std.proofs.Common.{ap, ◌∙◌}
use Rattle.sqlite.specs.Held.{state}
use Rattle.hh_states.specs.Runs.{last_of}
use Rattle.hh_sqlrows.specs.Forms.{rows_under_keys}
use Rattle.hh_sqlrows.specs.OfficeTables.{runs}
use Rattle.hh_sqlparts.proofs.BesideLaws.{last_there, runs_on_date}
use Rattle.hh_sqlparts.proofs.day_beside.latest_on.Goals as goal

pub returns-clause-value : goal.returns-clause-value
returns-clause-value g c stands office =
    let trees = (state g.S.Store c.args.conn.now).now.trees in
    c.copied.ensures ∙ c.last.ensures.value ∙ last_there c.deref.result.now
    ∙ ap last_of (c.deref.ensures.value ∙ c.in_ok-runs.ensures.value stands office ∙ runs_on_date c.args.date (rows_under_keys runs trees))

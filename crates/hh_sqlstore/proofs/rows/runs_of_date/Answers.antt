use Rattle.std.proofs.Common.{◌∙◌, ap}
use Rattle.std.specs.Prelude.{filter_map}
use Rattle.hh_states.specs.Reads.{summary_on}
use Rattle.hh_sqlstore.proofs.ReadLaws.{runs_picked}
use Rattle.hh_sqlstore.proofs.rows.runs_of_date.Goals as goal

pub returns-clause-value : goal.returns-clause-value
returns-clause-value g c stands office settled =
    c.in_ok-runs_on.ensures ∙ ap (filter_map (summary_on c.args.date)) (c.deref.ensures.value ∙ c.in_ok-rows.ensures.value stands office) ∙ runs_picked c.args.date _

use Rattle.std.proofs.Common.{◌∙◌}
use Rattle.sqlite.specs.Held.{state}
use Rattle.hh_sqlrows.specs.Contents.{registered_of}
use Rattle.hh_kept_rows.specs.Keeping.{positions_by}
use Rattle.hh_sqlparts.proofs.beside_anew.select_positions_anew.Goals as goal

pub returns-clause-value : goal.returns-clause-value
returns-clause-value g c stands is settled =
    let trees = (state g.S.Store c.args.conn.now).now.trees in
    let all = c.in_ok-tables.ensures.value stands is settled in
    c.in_ok-positions_by.ensures
    ∙ (λ i. positions_by (record (registered_of trees) { contracts = all.0 i; references = all.1 i }))

use Rattle.std.proofs.Common.{sym, ◌∙◌}
use Rattle.hh_settle.proofs.TellFacts.{bad_line_and_told, one_and_told}
use Rattle.hh_settle.proofs.telling.stopped.Goals as goal

pub returns-clause-one : goal.returns-clause-one
returns-clause-one g c one =
    let status = sym c.status-status.ensures ∙ one in
    (status, one_and_told _ c.args.stop status c.tell.ensures)

pub returns-clause-two : goal.returns-clause-two
returns-clause-two g c two = bad_line_and_told _ c.args.stop (sym c.status-status.ensures ∙ two) c.tell.ensures

use Rattle.std.proofs.Common.{◌∙◌, inr, refl}
use Rattle.hh_plain_tables.proofs.NewRunLaws.{run_written}
use Rattle.hh_plain_tables.proofs.plain_tables.PlainTablesTables.apply_run.Goals as goal

pub returns-clause-ok : goal.returns-clause-ok
returns-clause-ok c midnight from =
    run_written c.self.inside.settings c.self.inside.register c.self.inside.files c.self.inside.runs c.put.new.self c.args.self.now c.args.change c.self.view_is c.in_ok-put.ensures.ok midnight from

pub returns-clause-crash : goal.returns-clause-crash
returns-clause-crash c left is = inr (
  left,
  refl,
  λ midnight from.
      is ∙ run_written c.self.inside.settings c.self.inside.register c.self.inside.files c.self.inside.runs c.put.new.self c.args.self.now c.args.change c.self.view_is c.in_ok-put.ensures.ok midnight from,
)

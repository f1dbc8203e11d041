use Rattle.std.proofs.Common.{length, ap, ◌∙◌}
use Rattle.hh_tables.proofs.TableFacts.{put_back_undoes}
use Rattle.hh_tables.proofs.tree_table.put_two_into.Goals as goal

pub returns-in-Err-clause-err : goal.returns-in-Err-clause-err
returns-in-Err-clause-err g c =
    put_back_undoes g.met.K.Ord.total c.args.first.0 c.args.first.1 _ _ _ c.in_ok-before.before c.in_ok-before.ensures.old (c.in-Err.ensures.err ∙ c.in_ok-before.ensures.entries)
    (ap length c.in-Err.ensures.err ∙ c.in_ok-before.ensures.len) c.put_back.ensures

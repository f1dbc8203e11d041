use Rattle.hh_tables.proofs.TableFacts.{put_back_undoes}
use Rattle.hh_tables.proofs.tree_table.put_into_both.Goals as goal

pub returns-in-Err-clause-first_err : goal.returns-in-Err-clause-first_err
returns-in-Err-clause-first_err g c =
    put_back_undoes g.met.K.Ord.total c.args.row.0 c.args.row.1 _ _ _ c.in_ok-before.before c.in_ok-before.ensures.old c.in_ok-before.ensures.entries c.in_ok-before.ensures.len c.put_back.ensures

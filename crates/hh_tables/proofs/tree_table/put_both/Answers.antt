use Rattle.hh_tables.proofs.TableFacts.{put_ends, put_ends_table}
use Rattle.hh_tables.proofs.tree_table.put_both.Goals as goal

pub invariant_of-first : goal.invariant_of-first
invariant_of-first g c = put_ends_table g.met.K.Ord.total c.args.row.0 c.args.row.1 _ _ c.put_into_both.result c.first.invariant c.put_into_both.ensures.first c.put_into_both.ensures.first_err

pub invariant_of-second : goal.invariant_of-second
invariant_of-second g c =
    put_ends_table g.met.L.Ord.total c.args.second_row.0 c.args.second_row.1 _ _ c.put_into_both.result c.second.invariant c.put_into_both.ensures.second c.put_into_both.ensures.second_err

pub returns-clause-first : goal.returns-clause-first
returns-clause-first g c = put_ends g.K.Ord.cmp c.args.row.0 c.args.row.1 _ _ _ c.put_into_both.result c.first.view_is c.put_into_both.ensures.first

pub returns-clause-second : goal.returns-clause-second
returns-clause-second g c = put_ends g.L.Ord.cmp c.args.second_row.0 c.args.second_row.1 _ _ _ c.put_into_both.result c.second.view_is c.put_into_both.ensures.second

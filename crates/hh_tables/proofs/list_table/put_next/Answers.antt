use Rattle.std.proofs.Common.{◌++◌, ap, subst, sym, ◌∙◌}
use Rattle.std.specs.FinMap.{put}
use Rattle.hh_tables.specs.steps.Merges.{AreUpTo}
use Rattle.hh_tables.specs.Tables.{IsTable}
use Rattle.hh_tables.proofs.MergeLaws.{front_is_table, front_is_up_to, put_between, put_is_up_to}
use Rattle.hh_tables.proofs.list_table.put_next.Goals as goal

pub put_last-requires-clause-rising : goal.put_last-requires-clause-rising
put_last-requires-clause-rising g c =
    subst (IsTable g.K.Ord.cmp) (sym (c.in_ok-extend_from_slice.ensures.items ∙ ap (λ l. c.args.merged.now.items ++ l) c.split_at.ensures.front))
    (front_is_table g.met.K.Ord.total c.args.row c.args.merged.now.items c.args.rest.now c.count_up_to-count.result c.count_up_to-count.ensures.count c.requires.rising)

pub put_last-requires-clause-reached : goal.put_last-requires-clause-reached
put_last-requires-clause-reached g c =
    subst (AreUpTo g.K.Ord.cmp c.args.row.0) (sym (c.in_ok-extend_from_slice.ensures.items ∙ ap (λ l. c.args.merged.now.items ++ l) c.split_at.ensures.front))
    (front_is_up_to g.met.K.Ord.total c.args.row c.args.merged.now.items c.args.rest.now c.count_up_to-count.result c.count_up_to-count.ensures.count c.requires.rising c.requires.reached)

pub returns-clause-rows : goal.returns-clause-rows
returns-clause-rows g c =
    put_between g.met.K.Ord.total c.args.row c.args.merged.now.items c.args.rest.now c.count_up_to-count.result c.count_up_to-count.ensures.count c.requires.rising
    c.put_last.new.rows.items c.split_at.result.1.now
    (c.in_ok-put_last.ensures ∙ ap (put g.K.Ord.cmp c.args.row.0 c.args.row.1) (c.in_ok-extend_from_slice.ensures.items ∙ ap (λ l. c.args.merged.now.items ++ l) c.split_at.ensures.front))
    c.split_at.ensures.back

pub returns-clause-reached : goal.returns-clause-reached
returns-clause-reached g c =
    put_is_up_to g.met.K.Ord.total c.args.row c.args.merged.now.items c.args.rest.now c.count_up_to-count.result c.count_up_to-count.ensures.count c.requires.rising
    c.requires.reached c.put_last.new.rows.items
    (c.in_ok-put_last.ensures ∙ ap (put g.K.Ord.cmp c.args.row.0 c.args.row.1) (c.in_ok-extend_from_slice.ensures.items ∙ ap (λ l. c.args.merged.now.items ++ l) c.split_at.ensures.front))

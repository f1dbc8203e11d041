use Rattle.std.proofs.Common.{◌≡◌, true, rules}
use Rattle.hh_kept_rows.specs.steps.KeptReallocations.{is_no_later}
use Rattle.hh_settled_periods.proofs.RangeLaws.{one_more}
use Rattle.hh_kept_rows.proofs.kept_reallocations.count_of.Goals as goal

pub loop-count-preserved : goal.loop-count-preserved
loop-count-preserved c =
    let holds : is_no_later c.args.key.now c.index-rows-count.result ≡ true = search (rules, c.is_no_later.ensures, c.if-not-is_no_later.false) in
    one_more (is_no_later c.args.key.now) c.args.rows.now c.loop-count.count c.index-rows-count.result c.loop-count-test.true c.index-rows-count.is holds c.loop-count.invariant

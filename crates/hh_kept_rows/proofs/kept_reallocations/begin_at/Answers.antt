use Rattle.std.proofs.Common.{◌≡◌, ◌≤◌, true, false, rules, arith, length}
use Rattle.hh_tables.proofs.MergeLaws.{from_true}
use Rattle.hh_tables.proofs.OrderLaws.{below_partitions}
use Rattle.hh_kept_rows.specs.steps.KeptReallocations.{is_before}
use Rattle.hh_settled_periods.proofs.RangeLaws.{all_before, beside, beside_rises, none_behind}
use Rattle.hh_kept_rows.proofs.kept_reallocations.begin_at.Goals as goal

pub returns-clause-begins : goal.returns-clause-begins
returns-clause-begins c begins =
    let key = c.args.key.now in
    let rows = c.args.rows.now in
    let partitioned = below_partitions (beside key) rows (beside_rises key rows (from_true _ c.requires)) in
    let in' : c.args.place ≤ length rows = search (rules, arith, c.if-place-rows.false) in
    let last : c.is_last_before.result ≡ true = search (rules, c.if-not-is_last_before.false) in
    let first : c.is_before_at.result ≡ false = search (rules, begins) in
    (all_before (is_before key) rows partitioned c.args.place in' (c.is_last_before.ensures last), none_behind (is_before key) rows partitioned c.args.place (c.is_before_at.ensures first))

use Rattle.std.proofs.Common.{◌∙◌, ap, sym}
use Rattle.std.specs.FinMap.{put}
use Rattle.hh_rows.specs.Keys.{lead_key_cmp}
use Rattle.hh_registrations.proofs.ChangeLaws.{begun_at, put_next}
use Rattle.hh_registrations.proofs.leads.LeadTable.of_rows.Goals as goal

pub loop-row-preserved : goal.loop-row-preserved
loop-row-preserved c =
    let i = c.loop-row.row-index in
    let rows = c.args.rows.now in
    c.in_ok-put_row.ensures.put c.if-not-branch.false
    ∙ ap (put lead_key_cmp c.row-item.result.0 c.row-item.result.1) c.loop-row.invariant
    ∙ put_next rows i c.row-item.result c.loop-row-test.true c.row-item.is

pub returns-then-not-branch-clause-accepted : goal.returns-then-not-branch-clause-accepted
returns-then-not-branch-clause-accepted c all =
    let put = c.in_ok-put_row.ensures.accepted (begun_at c.args.rows.now c.loop-row.row-index c.row-item.result c.loop-row-test.true c.row-item.is all) in
    let e = sym put ∙ c.if-not-branch.true in cc

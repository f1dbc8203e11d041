use Rattle.std.proofs.Common.{◌∙◌, subst, sym}
use Rattle.hh_tables.specs.Tables.{IsTable}
use Rattle.hh_rows.specs.Keys.{lead_key_cmp}
use Rattle.hh_registrations.specs.steps.Dates.{AreInOrder}
use Rattle.hh_registrations.proofs.ChangeLaws.{all_put, one_more_put}
use Rattle.hh_registrations.proofs.leads.LeadTable.copied.Goals as goal

pub loop-row-preserved : goal.loop-row-preserved
loop-row-preserved c =
    one_more_put c.deref-row-items.result.now (subst (IsTable lead_key_cmp) (sym (c.deref-row-items.ensures.value ∙ c.in_ok-rows.ensures)) c.self.invariant.rising)
    c.loop-row.row-index c.row-item.result c.loop-row-test.true c.row-item.is c.loop-row.copy c.put.new.self c.loop-row.invariant c.in_ok-put.ensures.ok

pub invariant_of-result : goal.invariant_of-result
invariant_of-result c =
    subst AreInOrder
    (sym (all_put c.self.inside.rows c.self.invariant.rising c.deref-row-items.result.now (c.deref-row-items.ensures.value ∙ c.in_ok-rows.ensures)
    c.loop-row.row-index c.loop-row-test.false c.loop-row.copy c.loop-row.invariant))
    c.self.invariant

pub returns : goal.returns
returns c =
    all_put c.self.inside.rows c.self.invariant.rising c.deref-row-items.result.now (c.deref-row-items.ensures.value ∙ c.in_ok-rows.ensures)
    c.loop-row.row-index c.loop-row-test.false c.loop-row.copy c.loop-row.invariant
    ∙ c.self.view_is

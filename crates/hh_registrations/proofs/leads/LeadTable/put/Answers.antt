use Rattle.std.proofs.Common.{◌∙◌, ap, sym}
use Rattle.hh_registrations.specs.Registrations.{lead_change}
use Rattle.hh_registrations.proofs.ChangeLaws.{kept_either}
use Rattle.hh_registrations.proofs.leads.LeadTable.put.Goals as goal

pub invariant_of-self : goal.invariant_of-self
invariant_of-self c =
    kept_either c.self.inside.rows c.args.row.now c.change_of-change.result
    (c.change_of-change.ensures.change ∙ ap (λ x. lead_change x c.args.row.now) (sym c.self.view_is)) c.change_of-change.ensures.accepted c.self.invariant
    c.put_lead.new.leads c.put_lead.result c.put_lead.ensures.ok c.put_lead.ensures.err

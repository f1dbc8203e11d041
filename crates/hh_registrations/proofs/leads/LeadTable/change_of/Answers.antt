use Rattle.hh_registrations.proofs.ChangeLaws.{change_is}
use Rattle.hh_registrations.proofs.leads.LeadTable.change_of.Goals as goal

pub returns-clause-change : goal.returns-clause-change
returns-clause-change c =
    change_is c.args.self.now c.args.row.now c.last.result c.last.ensures.last
    c.former_lead.result c.former_lead.ensures c.ends-from.result c.ends-from.ensures.value

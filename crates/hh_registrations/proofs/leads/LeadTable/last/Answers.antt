use Rattle.std.proofs.Common.{◌∙◌, ap}
use Rattle.hh_registrations.specs.Registrations.{last_begun, last_registration}
use Rattle.hh_registrations.proofs.ChangeLaws.{last_is_begun}
use Rattle.hh_registrations.proofs.leads.LeadTable.last.Goals as goal

pub returns-clause-last : goal.returns-clause-last
returns-clause-last c =
    c.last_begun.ensures.value ∙ ap (last_begun c.self.inside.rows c.args.unit.now) c.last.ensures
    ∙ last_is_begun c.self.inside.rows c.args.unit.now c.self.invariant.dated
    ∙ ap (λ leads. last_registration leads c.args.unit.now) c.self.view_is

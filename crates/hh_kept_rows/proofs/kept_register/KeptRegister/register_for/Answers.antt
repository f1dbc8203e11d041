use Rattle.hh_kept_rows.proofs.NamedLaws.{serves_with_held}
use Rattle.hh_kept_rows.proofs.kept_register.KeptRegister.register_for.Goals as goal

pub returns-clause-serves : goal.returns-clause-serves
returns-clause-serves c =
    serves_with_held c.args.self.now c.in_ok-hold_reallocations.ensures.rising c.in_ok-named.named c.args.lead_minutes c.args.rows.now c.in_ok-part.part c.hold_reallocations.new.part c.hold_leads.new.part
    c.in_ok-part.ensures.part c.in_ok-part.ensures.agrees c.in_ok-named.ensures c.in_ok-hold_reallocations.ensures.held c.in_ok-hold_leads.ensures

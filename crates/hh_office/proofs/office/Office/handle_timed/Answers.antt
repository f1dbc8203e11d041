use Rattle.std.proofs.Common.{rules, subst, w64, SFits}
use Rattle.std.proofs.lemmas.Int.{to_z-of_z}
use Rattle.hh_office.specs.Promises.{HandleStep}
use Rattle.hh_store.specs.Crashes.{AddsOnly}
use Rattle.hh_office.specs.Crashes.{IfReplied, MadeInEachState}
use Rattle.hh_office.specs.Machine.{step}
use Rattle.hh_office.proofs.office.Office.handle_timed.Goals as goal

pub returns-clause-makes : goal.returns-clause-makes
returns-clause-makes g c sure =
    let fits : SFits w64 c.args.request.now.0 = search rules in
    subst (λ m. HandleStep c.args.self.now.seen c.handle.new.self.seen m c.args.request.now.1 c.handle.result) (to_z-of_z w64 c.args.request.now.0 fits) (c.handle.ensures.step sure)

pub returns-clause-crash : goal.returns-clause-crash
returns-clause-crash g c =
    let fits : SFits w64 c.args.request.now.0 = search rules in
    subst (λ m. AddsOnly g.T.Tables.is_honest g.T.Tables.is_open g.T.Tables.may_leave g.T.Tables.holds c.args.self.now.tables c.handle.new.self.tables (IfReplied c.handle.result)
    (MadeInEachState c.args.self.now.seen (λ midnight s. step midnight s m c.args.request.now.1))) (to_z-of_z w64 c.args.request.now.0 fits) c.handle.ensures.crash

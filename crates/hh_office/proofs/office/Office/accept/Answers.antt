use Rattle.std.proofs.Common.{ap, subst, ◌∙◌}
use Rattle.hh_states.specs.Changes.{LoadChangeView}
use Rattle.hh_office.specs.steps.Loads.{WritesLoad, writes_of}
use Rattle.hh_office.specs.Machine.{loaded_reply}
use Rattle.hh_office.proofs.StepLaws.{accepts}
use Rattle.hh_office.specs.Crashes.{IfReplied}
use Rattle.hh_office.specs.steps.Crashes.{IsAcceptedContent, IsLoadedContent}
use Rattle.hh_office.proofs.CrashLaws.{accept_leaves, only_as, only_made, replied_anyway}
use Rattle.hh_office.proofs.office.Office.accept.Goals as goal

pub returns-clause-makes : goal.returns-clause-makes
returns-clause-makes g c sure =
    let file = c.file.ensures ∙ ap (λ (w : LoadChangeView). w.file) c.in_ok-change.ensures in
    accepts c.args.self.now.seen c.commit.new.self.seen (writes_of c.args.upload.now c.args.judged) c.loaded_reply-reply.result (c.loaded_reply-reply.ensures ∙ ap loaded_reply file)
    (subst (WritesLoad c.args.self.now.seen c.commit.new.self.seen) c.in_ok-change.ensures (c.in_ok-commit.ensures.written sure))

pub returns-clause-crash : goal.returns-clause-crash
returns-clause-crash g c =
    let office = c.args.self.now.seen in
    only_as g.T.Tables.is_honest g.T.Tables.is_open g.T.Tables.may_leave g.T.Tables.holds c.args.self.now.tables c.commit.new.self.tables (λ P. P) (IfReplied c.loaded_reply-reply.result)
    (IsAcceptedContent office (writes_of c.args.upload.now c.args.judged)) (replied_anyway c.loaded_reply-reply.result _)
    (only_made g.T.Tables.is_honest g.T.Tables.is_open g.T.Tables.may_leave g.T.Tables.holds c.args.self.now.tables c.commit.new.self.tables (λ P. P) (IsLoadedContent office c.in_ok-change.change) (IsAcceptedContent office (writes_of c.args.upload.now c.args.judged))
    (λ honest stood left made. accept_leaves office (writes_of c.args.upload.now c.args.judged) left (subst (λ (w : LoadChangeView). IsLoadedContent office w left) c.in_ok-change.ensures made)) c.in_ok-commit.ensures.crash)

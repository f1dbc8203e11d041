use Rattle.std.proofs.Common.{subst, sym, Ok, Err, w64, refl}
use Rattle.std.proofs.lemmas.Int.{to_z-of_z}
use Rattle.hh_requests.specs.declared.reply.Reply.TheVariants as reply
use Rattle.hh_office.specs.steps.Loads.{Accepts, Judges, writes_of}
use Rattle.hh_office.specs.Machine.{load_new, loaded_reply}
use Rattle.hh_office.specs.Promises.{MakesTransition}
use Rattle.hh_office.specs.steps.Promises.{reply_of}
use Rattle.hh_office.specs.Views.{midnight_of}
use Rattle.hh_office.proofs.StepLaws.{comes_same, load_accepted, load_refused, passed_reply}
use Rattle.hh_office.proofs.RefusalLaws.{reached_by, refused_alike}
use Rattle.hh_office.specs.Refusals.{CountsReply}
use Rattle.hh_store.specs.Reached.{AreReached}
use Rattle.hh_office.specs.Views.{OfficeView}
use Rattle.hh_office.proofs.CrashLaws.{only_made_then}
use Rattle.hh_office.specs.Crashes.{IfReplied, MadeInEachState, with_content}
use Rattle.hh_office.specs.steps.Crashes.{IsAcceptedContent}
use Rattle.hh_office.proofs.office.Office.load_new.Goals as goal

pub returns-in_err-judged-clause-makes : goal.returns-in_err-judged-clause-makes
returns-in_err-judged-clause-makes g c sure s stands =
    let office = c.args.self.now.seen in
    let transition = load_new (midnight_of office) s c.args.moment c.args.upload.now in
    let fault = c.in_err-judged.field-0.0 in
    let judged = subst (λ m. Judges office m c.args.upload.now (Err fault)) (to_z-of_z w64 c.args.moment c.ranges.moment) (c.in_err-judged.ensures.judged sure) in
    subst (λ given. MakesTransition office c.judge.new.self.seen given transition) (passed_reply c.from_residual.result fault c.from_residual.ensures)
    (comes_same office c.judge.new.self.seen (reply.Refused fault) transition (c.in_err-judged.ensures.same sure)
    (load_refused office s c.args.moment c.args.upload.now stands fault (judged s stands)))

pub returns-clause-makes : goal.returns-clause-makes
returns-clause-makes g c sure s stands =
    let before = c.accept.ensures.sure sure in
    let judged = subst (λ m. Judges c.args.self.now.seen m c.args.upload.now (Ok c.in_ok-judged.judged)) (to_z-of_z w64 c.args.moment c.ranges.moment) (c.in_ok-judged.ensures.judged before) in
    load_accepted c.args.self.now.seen s c.args.moment c.args.upload.now stands c.accept.new.self.seen c.in_ok-judged.judged (reply_of c.accept.result) c.kept_files.ensures (c.requires (c.in_ok-judged.ensures.sure before)) c.as_bytes.ensures.word
    (subst (λ o. Accepts o c.accept.new.self.seen (writes_of c.args.upload.now c.in_ok-judged.judged) (reply_of c.accept.result)) (c.in_ok-judged.ensures.same before) (c.accept.ensures.makes sure))
    (judged s stands)

pub returns-in_err-judged-clause-refusals_counted : goal.returns-in_err-judged-clause-refusals_counted
returns-in_err-judged-clause-refusals_counted g c sure some =
    refused_alike c.from_residual.result c.in_err-judged.field-0.0 _ _ c.from_residual.ensures (c.in_err-judged.ensures.refusals_counted sure some)

pub returns-clause-refusals_counted : goal.returns-clause-refusals_counted
returns-clause-refusals_counted g c sure some =
    let before = c.accept.ensures.sure sure in
    let same = c.in_ok-judged.ensures.same before in
    subst (λ n. CountsReply (reply_of c.accept.result) n (g.T.Tables.refusals c.accept.new.self.tables)) (c.in_ok-judged.ensures.refusals_counted before some)
    (c.accept.ensures.refusals_counted sure (subst (λ (o : OfficeView). AreReached o.content) (sym same) (reached_by c.args.self.now.seen some)))

pub returns-clause-crash : goal.returns-clause-crash
returns-clause-crash g c =
    let office = c.args.self.now.seen in
    let writes = writes_of c.args.upload.now c.in_ok-judged.judged in
    only_made_then g.T.Tables.is_honest g.T.Tables.is_open g.T.Tables.may_leave g.T.Tables.holds c.args.self.now.tables c.judge.new.self.tables c.accept.new.self.tables (IfReplied (reply_of c.accept.result))
    (IsAcceptedContent c.judge.new.self.seen writes) (MadeInEachState office (λ midnight s. load_new midnight s c.args.moment c.args.upload.now))
    (λ before left made.
    let judged = subst (λ m. Judges office m c.args.upload.now (Ok c.in_ok-judged.judged)) (to_z-of_z w64 c.args.moment c.ranges.moment) (c.in_ok-judged.ensures.judged before) in
    record {
      given = loaded_reply writes.file;
      answered = refl;
      makes = λ s stands.
          load_accepted office s c.args.moment c.args.upload.now stands (with_content office left) c.in_ok-judged.judged (loaded_reply writes.file) c.kept_files.ensures (c.requires (c.in_ok-judged.ensures.sure before)) c.as_bytes.ensures.word
          (subst (λ o. IsAcceptedContent o writes left) (c.in_ok-judged.ensures.same before) made) (judged s stands);
    })
    c.in_ok-judged.ensures.crash c.accept.ensures.crash

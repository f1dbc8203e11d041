use Rattle.std.proofs.Common.{subst, sym, ◌∙◌, ◌≤◌, length, w64, to_z, of_z, Some, None, Ok}
use Rattle.std.proofs.lemmas.Bool.{le-ltb}
use Rattle.std.proofs.lemmas.Int.{to_z-of_z}
use Rattle.hh_rows.specs.RowKinds.{most_bytes}
use Rattle.hh_office.specs.Machine.{load_beside, load_new, repeat_reply, load}
use Rattle.hh_office.specs.Transitions.{unchanged}
use Rattle.hh_office.specs.Promises.{MakesTransition}
use Rattle.hh_office.specs.steps.Promises.{FollowsMachine, reply_of}
use Rattle.hh_office.specs.Views.{midnight_of}
use Rattle.hh_office.proofs.StepLaws.{comes_by_kept, comes_same, comes_unchanged}
use Rattle.hh_office.proofs.RefusalLaws.{reached_by, repeat_counts}
use Rattle.hh_office.specs.Refusals.{CountsReply, RepresentsSome}
use Rattle.hh_office.proofs.CrashLaws.{only_made_then}
use Rattle.hh_office.specs.Crashes.{IfReplied, MadeInEachState, with_content}
use Rattle.hh_office.proofs.office.Office.load.Goals as goal

pub returns-in-Some-clause-makes : goal.returns-in-Some-clause-makes
returns-in-Some-clause-makes g c sure s stands =
    let office = c.args.self.now.seen in
    let upload = c.args.upload.now in
    let file = c.in-Some.file in
    let small = le-ltb most_bytes (length upload.body) (subst (λ b. length b ≤ most_bytes) c.as_slice.ensures c.if-as_slice-gt-MOST_BYTES.false) in
    let new = c.kept_under.new.self.seen in
    comes_by_kept office s c.args.moment upload stands c.kept_files.ensures (Some file) (sym c.in-Some.is ∙ c.in_ok-file.ensures.value sure) small new (reply_of (Ok c.repeated.result))
    (subst (λ given. MakesTransition office new given (load_beside (midnight_of office) s (Some file) c.args.moment upload)) (sym c.repeated.ensures)
    (comes_same office new (repeat_reply file upload.body) (unchanged s (repeat_reply file upload.body)) (c.in_ok-file.ensures.same sure) (comes_unchanged office s (repeat_reply file upload.body) stands)))

pub returns-in-None-clause-makes : goal.returns-in-None-clause-makes
returns-in-None-clause-makes g c sure s stands =
    let office = c.args.self.now.seen in
    let upload = c.args.upload.now in
    let new = c.load_new.new.self.seen in
    let before = c.load_new.ensures.sure sure in
    let small = le-ltb most_bytes (length upload.body) (subst (λ b. length b ≤ most_bytes) c.as_slice.ensures c.if-as_slice-gt-MOST_BYTES.false) in
    let does = subst (λ o. FollowsMachine o new c.load_new.result (λ midnight s. load_new midnight s (to_z w64 (of_z w64 c.args.moment)) upload)) (c.in_ok-file.ensures.same before) (c.load_new.ensures.makes sure) in
    comes_by_kept office s c.args.moment upload stands c.kept_files.ensures None (sym c.in-None.is ∙ c.in_ok-file.ensures.value before) small new (reply_of c.load_new.result)
    (subst (λ m. MakesTransition office new (reply_of c.load_new.result) (load_new (midnight_of office) s m upload)) (to_z-of_z w64 c.args.moment c.ranges.moment) (does s stands))

pub returns-in-Some-clause-refusals_counted : goal.returns-in-Some-clause-refusals_counted
returns-in-Some-clause-refusals_counted g c sure some =
    subst (λ r. CountsReply r (g.T.Tables.refusals c.args.self.now.tables) (g.T.Tables.refusals c.kept_under.new.self.tables)) (sym c.repeated.ensures)
    (subst (λ n. CountsReply (repeat_reply c.in-Some.file c.args.upload.now.body) (g.T.Tables.refusals c.args.self.now.tables) n)
    (sym (c.in_ok-file.ensures.refusals_counted sure (reached_by c.args.self.now.seen some)))
    (repeat_counts c.in-Some.file c.args.upload.now.body (g.T.Tables.refusals c.args.self.now.tables)))

pub returns-in-None-clause-refusals_counted : goal.returns-in-None-clause-refusals_counted
returns-in-None-clause-refusals_counted g c sure some =
    let before = c.load_new.ensures.sure sure in
    let same = c.in_ok-file.ensures.same before in
    subst (λ n. CountsReply (reply_of c.load_new.result) n (g.T.Tables.refusals c.load_new.new.self.tables)) (c.in_ok-file.ensures.refusals_counted before (reached_by c.args.self.now.seen some))
    (c.load_new.ensures.refusals_counted sure (subst RepresentsSome (sym same) some))

pub returns-in-None-clause-crash : goal.returns-in-None-clause-crash
returns-in-None-clause-crash g c =
    let office = c.args.self.now.seen in
    let upload = c.args.upload.now in
    let small = le-ltb most_bytes (length upload.body) (subst (λ b. length b ≤ most_bytes) c.as_slice.ensures c.if-as_slice-gt-MOST_BYTES.false) in
    only_made_then g.T.Tables.is_honest g.T.Tables.is_open g.T.Tables.may_leave g.T.Tables.holds c.args.self.now.tables c.kept_under.new.self.tables c.load_new.new.self.tables (IfReplied (reply_of c.load_new.result))
    (MadeInEachState c.kept_under.new.self.seen (λ midnight s. load_new midnight s (to_z w64 (of_z w64 c.args.moment)) upload)) (MadeInEachState office (λ midnight s. load midnight s c.args.moment upload))
    (λ before left made.
    let at = subst (λ o. MadeInEachState o (λ midnight s. load_new midnight s (to_z w64 (of_z w64 c.args.moment)) upload) left) (c.in_ok-file.ensures.same before) made in
    record {
      given = at.given;
      answered = at.answered;
      makes = λ s stands.
          comes_by_kept office s c.args.moment upload stands c.kept_files.ensures None (sym c.in-None.is ∙ c.in_ok-file.ensures.value before) small (with_content office left) at.given
          (subst (λ m. MakesTransition office (with_content office left) at.given (load_new (midnight_of office) s m upload)) (to_z-of_z w64 c.args.moment c.ranges.moment) (at.makes s stands));
    })
    c.in_ok-file.ensures.crash c.load_new.ensures.crash

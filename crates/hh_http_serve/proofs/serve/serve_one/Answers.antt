use Rattle.std.proofs.Common.{Err, refl, rules, subst, w64, SFits}
use Rattle.std.proofs.lemmas.Int.{to_z-of_z}
use Rattle.hh_wire.specs.declared.incoming.WireFault.{WireFault}
use Rattle.hh_http_serve.specs.Serves.{IsReadOf}
use Rattle.hh_http_serve.proofs.ServeLemmas.{handled, leaves_not_replied, leaves_replied, not_replied, refusal_replied, refusal_unreplied, replied, reply_up, represents_after_one}
use Rattle.hh_http_serve.proofs.serve.serve_one.Goals as goal

pub returns-in_err-write_reply-in-Ok-Asked-clause-served :
    goal.returns-in_err-write_reply-in-Ok-Asked-clause-served
returns-in_err-write_reply-in-Ok-Asked-clause-served g c sure =
    let source = g.I.Source.remaining c.args.source.now in
    let old = c.args.office.now.seen in
    let new = c.handle-reply.new.self.seen in
    let h = c.handle-reply.ensures in
    let counted = g.T.Tables.refusals c.args.office.now.tables in
    let counts = g.T.Tables.refusals c.handle-reply.new.self.tables in
    let fits : SFits w64 c.args.moment = search rules in
    let is = handled old new c.args.moment _ (to_z-of_z w64 c.args.moment fits) c.in-Ok-Asked.request c.handle-reply.result (h.step sure) (h.represents sure)
    source c.in-Ok-Asked.field-0 c.in-Ok-Asked.field-0-is c.in-Ok-Asked.ensures.message (h.untouched sure) (h.once sure) (h.sums sure) (h.view sure) (h.foreign sure) counted counts (h.refusals_counted sure) in
    not_replied source old new counted counts c.args.moment _ c.handle-reply.result is c.in_err-write_reply-in-Ok-Asked.field-0.0 c.from_residual.result c.from_residual.ensures.1
    c.in_err-write_reply-in-Ok-Asked.ensures.reply c.in_err-write_reply-in-Ok-Asked.ensures.no_memory

pub returns-in_err-write_reply-in-Ok-Asked-clause-represents :
    goal.returns-in_err-write_reply-in-Ok-Asked-clause-represents
returns-in_err-write_reply-in-Ok-Asked-clause-represents g c sure =
    let fits : SFits w64 c.args.moment = search rules in
    represents_after_one c.args.office.now.seen c.handle-reply.new.self.seen c.args.moment _ (to_z-of_z w64 c.args.moment fits) c.in-Ok-Asked.request c.handle-reply.result
    (c.handle-reply.ensures.step sure) (c.handle-reply.ensures.represents sure)

pub returns-in-Ok-Asked-clause-served :
    goal.returns-in-Ok-Asked-clause-served
returns-in-Ok-Asked-clause-served g c sure =
    let source = g.I.Source.remaining c.args.source.now in
    let old = c.args.office.now.seen in
    let new = c.handle-reply.new.self.seen in
    let h = c.handle-reply.ensures in
    let counted = g.T.Tables.refusals c.args.office.now.tables in
    let counts = g.T.Tables.refusals c.handle-reply.new.self.tables in
    let fits : SFits w64 c.args.moment = search rules in
    let is = handled old new c.args.moment _ (to_z-of_z w64 c.args.moment fits) c.in-Ok-Asked.request c.handle-reply.result (h.step sure) (h.represents sure)
    source c.in-Ok-Asked.field-0 c.in-Ok-Asked.field-0-is c.in-Ok-Asked.ensures.message (h.untouched sure) (h.once sure) (h.sums sure) (h.view sure) (h.foreign sure) counted counts (h.refusals_counted sure) in
    replied source old new counted counts c.args.moment _ c.handle-reply.result is c.in_ok-write_reply-in-Ok-Asked.ensures.reply

pub returns-in-Ok-Asked-clause-represents :
    goal.returns-in-Ok-Asked-clause-represents
returns-in-Ok-Asked-clause-represents g c sure =
    let fits : SFits w64 c.args.moment = search rules in
    represents_after_one c.args.office.now.seen c.handle-reply.new.self.seen c.args.moment _ (to_z-of_z w64 c.args.moment fits) c.in-Ok-Asked.request c.handle-reply.result
    (c.handle-reply.ensures.step sure) (c.handle-reply.ensures.represents sure)

pub returns-in_err-write_reply-in-Ok-Asked-clause-refusals_up :
    goal.returns-in_err-write_reply-in-Ok-Asked-clause-refusals_up
returns-in_err-write_reply-in-Ok-Asked-clause-refusals_up g c sure some =
    reply_up c.handle-reply.result _ _ (c.handle-reply.ensures.refusals_counted sure some)

pub returns-in-Ok-Asked-clause-refusals_up :
    goal.returns-in-Ok-Asked-clause-refusals_up
returns-in-Ok-Asked-clause-refusals_up g c sure some =
    reply_up c.handle-reply.result _ _ (c.handle-reply.ensures.refusals_counted sure some)

pub returns-in-Ok-clause-served : goal.returns-in-Ok-clause-served
returns-in-Ok-clause-served g c sure =
    let source = g.I.Source.remaining c.args.source.now in
    let old = c.args.office.now.seen in
    let message = subst (λ (w : WireFault). IsReadOf source (Err w)) c.in-Err-Refused.field-0-is c.in-Err-Refused.ensures.message in
    refusal_replied source old old 0 0 c.args.moment _ c.in-Err-Refused.refused (message, refl) c.in-Ok.ensures

pub returns-in-Err-Refused-clause-served : goal.returns-in-Err-Refused-clause-served
returns-in-Err-Refused-clause-served g c sure =
    let source = g.I.Source.remaining c.args.source.now in
    let old = c.args.office.now.seen in
    let message = subst (λ (w : WireFault). IsReadOf source (Err w)) c.in-Err-Refused.field-0-is c.in-Err-Refused.ensures.message in
    refusal_unreplied source old old _ _ c.args.moment _ c.in-Err-Refused.refused (message, refl) c.in-Err.field-0 c.in-Err.ensures

pub returns-in_err-write_reply-in-Ok-Asked-clause-left :
    goal.returns-in_err-write_reply-in-Ok-Asked-clause-left
returns-in_err-write_reply-in-Ok-Asked-clause-left g c =
    let fits : SFits w64 c.args.moment = search rules in
    leaves_not_replied g.T.Tables.is_honest g.T.Tables.is_open g.T.Tables.may_leave g.T.Tables.holds c.args.office.now c.handle-reply.new.self (g.I.Source.remaining c.args.source.now) c.args.moment _ (to_z-of_z w64 c.args.moment fits) _
    c.in-Ok-Asked.request c.handle-reply.result c.in-Ok-Asked.field-0 c.in-Ok-Asked.field-0-is c.in-Ok-Asked.ensures.message c.handle-reply.ensures.left
    c.in_err-write_reply-in-Ok-Asked.field-0.0 c.from_residual.result c.from_residual.ensures.1 c.in_err-write_reply-in-Ok-Asked.ensures.reply

pub returns-in-Ok-Asked-clause-left :
    goal.returns-in-Ok-Asked-clause-left
returns-in-Ok-Asked-clause-left g c =
    let fits : SFits w64 c.args.moment = search rules in
    leaves_replied g.T.Tables.is_honest g.T.Tables.is_open g.T.Tables.may_leave g.T.Tables.holds c.args.office.now c.handle-reply.new.self (g.I.Source.remaining c.args.source.now) c.args.moment _ (to_z-of_z w64 c.args.moment fits) _
    c.in-Ok-Asked.request c.handle-reply.result c.in-Ok-Asked.field-0 c.in-Ok-Asked.field-0-is c.in-Ok-Asked.ensures.message c.handle-reply.ensures.left c.in_ok-write_reply-in-Ok-Asked.ensures.reply

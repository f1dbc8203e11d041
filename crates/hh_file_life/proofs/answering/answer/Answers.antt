use Rattle.std.proofs.Common.{subst, sym}
use Rattle.jiff.specs.Words.{plain_zone}
use Rattle.sqlite.specs.Held.{state}
use Rattle.hh_time.specs.Zone.{midnight_in}
use Rattle.hh_requests.specs.declared.reply.Reply.TheVariants as reply
use Rattle.hh_sqlstore.specs.Stores.{content_in}
use Rattle.hh_file_life.specs.steps.Answers.{AnswersIn}
use Rattle.hh_file_life.proofs.AnswerLaws.{refused, taken}
use Rattle.hh_file_life.proofs.answering.answer.Goals as goal

pub returns-in-Ok : goal.returns-in-Ok
returns-in-Ok g c =
    let midnight = midnight_in (plain_zone c.args.zone.now) in
    let old = state g.S.Store c.args.connection in
    subst (λ h. AnswersIn midnight c.args.command.now old (state g.S.Store h) c.answer_over-reply.result.0) (sym c.into_connection.ensures.same)
    (taken midnight c.args.command.now old (state g.S.Store c.answer_over-reply.result.1.connection) c.answer_over-reply.result.0 (state g.S.Store c.in-Ok.tables.connection) (content_in g.S.Store c.in-Ok.tables)
    c.in-Ok.ensures.keeps c.in-Ok.ensures.open c.in-Ok.ensures.content c.answer_over-reply.ensures)

pub returns-in-Err : goal.returns-in-Err
returns-in-Err g c =
    let midnight = midnight_in (plain_zone c.args.zone.now) in
    let old = state g.S.Store c.args.connection in
    let new = state g.S.Store c.in-Err.connection in
    subst (λ fault. AnswersIn midnight c.args.command.now old new (reply.Refused fault)) (sym c.from.ensures)
    (refused midnight c.args.command.now old new c.in-Err.fault c.in-Err.ensures.keeps)

use Rattle.std.proofs.Common.{SFits, rules, subst, sym, w64}
use Rattle.std.proofs.lemmas.Int.{to_z-of_z}
use Rattle.hh_office.specs.Crashes.{CrashStep}
use Rattle.hh_office.specs.Promises.{HandleStep}
use Rattle.hh_file_life.proofs.AnswerLaws.{handled}
use Rattle.hh_file_life.proofs.answering.answer_over.Goals as goal

pub returns : goal.returns
returns g c =
    let command = c.args.command.now in
    let old = c.new-office.result in
    let new = c.handle-reply.new.self in
    let fits : SFits w64 command.moment = search rules in
    let same = to_z-of_z w64 command.moment fits in
    let left = subst (λ m. CrashStep g.T.Tables.is_honest g.T.Tables.is_open g.T.Tables.may_leave g.T.Tables.holds old new m command.request c.handle-reply.result) same c.handle-reply.ensures.left in
    rw (c.new-office.ensures.seen, c.new-office.ensures.tables, sym c.into_tables.ensures.same) at
    (handled g.T.Tables.is_honest g.T.Tables.is_open g.T.Tables.may_leave g.T.Tables.holds old new command c.handle-reply.result _
    c.keeps_reached.ensures c.handle-reply.ensures.crash left (λ sure. subst (λ m. HandleStep old.seen new.seen m command.request c.handle-reply.result) same (c.handle-reply.ensures.step sure)))

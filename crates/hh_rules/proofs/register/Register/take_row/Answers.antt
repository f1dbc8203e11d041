use Rattle.std.proofs.Common.{◌∙◌, sym, ap, w64}
use Rattle.std.proofs.lemmas.Int.{to_z-of_z}
use Rattle.hh_rules.specs.steps.FileRows.{judged_row}
use Rattle.hh_rules.specs.Lateness.{accepted_at, timing_of}
use Rattle.hh_rules.specs.RegisterView.{refusal_at, timetable_of}
use Rattle.hh_rules.proofs.JudgeFacts.{by_row_refusal}
use Rattle.hh_rules.proofs.register.Register.take_row.Goals as goal

pub returns-in-Err-clause-judged : goal.returns-in-Err-clause-judged
returns-in-Err-clause-judged c =
    let passed = to_z-of_z w64 c.args.moment c.ranges.moment in
    let refused = ap (λ m. refusal_at c.args.zone.now c.args.self.now m c.args.row.now) (sym passed) ∙ c.in-Err.ensures.refused in
    rw c.at_row.ensures
    (by_row_refusal c.args.self.now.standing (timing_of (timetable_of c.args.zone.now c.args.self.now) (accepted_at c.args.moment c.args.row.now)) c.args.row.now c.in-Err.refusal _ _
    refused (ap (judged_row c.args.number) refused))

use Rattle.std.proofs.Common.{◌∙◌, sym, subst, w64}
use Rattle.std.proofs.lemmas.Int.{to_z-of_z}
use Rattle.hh_rules.specs.steps.Effects.{HasRoomFor}
use Rattle.hh_rules.specs.RegisterView.{timetable_of}
use Rattle.hh_rules.proofs.JudgeFacts.{accepted_has_room, in_time_told, least_told}
use Rattle.hh_rules.proofs.register.Register.judge.Goals as goal

pub returns-in-Some-clause-least : goal.returns-in-Some-clause-least
returns-in-Some-clause-least c =
    least_told (timetable_of c.args.zone.now c.args.self.now) c.args.self.now.standing _ c.args.moment c.args.row.now _ _
    (to_z-of_z w64 c.args.moment c.ranges.moment) c.timing_of-timing.ensures.timing c.refusal_of.ensures c.in-Some.refusal c.in-Some.is

pub returns-in-None-clause-in_time : goal.returns-in-None-clause-in_time
returns-in-None-clause-in_time c =
    c.comes_in_time.ensures
    ∙ in_time_told (timetable_of c.args.zone.now c.args.self.now) c.args.self.now.standing _ c.args.moment c.args.row.now _ _
    (to_z-of_z w64 c.args.moment c.ranges.moment) c.timing_of-timing.ensures.timing c.refusal_of.ensures c.in-None.is

pub returns-in-None-clause-room : goal.returns-in-None-clause-room
returns-in-None-clause-room c =
    subst (λ b. HasRoomFor b c.args.row.now c.args.self.now.standing) (sym c.comes_in_time.ensures)
    (accepted_has_room c.args.self.now.standing c.timing_of-timing.result c.args.row.now (sym c.refusal_of.ensures ∙ c.in-None.is))

use Rattle.std.proofs.Common.{◌≡◌, ◌∙◌, sym, ap, subst, w64}
use Rattle.std.proofs.lemmas.Int.{to_z-of_z}
use Rattle.hh_rules.specs.Effects.{fixes_reference, row_done, standing_with}
use Rattle.hh_rules.specs.Lateness.{accepted_at}
use Rattle.hh_rules.specs.RegisterView.{ServesFor, after_row, in_time_at, refusal_at, refusals_at, register_after, tables_in, timetable_of}
use Rattle.hh_rules.proofs.JudgeFacts.{least_of_none}
use Rattle.hh_rules.proofs.RowLaws.{one_more_row}
use Rattle.hh_rules.proofs.ServingLaws.{part_serves}
use Rattle.hh_rules.proofs.register.Register.apply_row.Goals as goal

pub returns-in_err-accept-clause-least : goal.returns-in_err-accept-clause-least
returns-in_err-accept-clause-least c =
    let passed = to_z-of_z w64 c.args.moment c.ranges.moment in
    least_of_none (refusals_at c.args.zone.now c.args.self.now c.args.moment c.args.row)
    (ap (λ m. refusal_at c.args.zone.now c.args.self.now m c.args.row) (sym passed) ∙ c.in-Ok.ensures.accepted) c.from_residual.result

pub returns-clause-one_more_row : goal.returns-clause-one_more_row
returns-clause-one_more_row c =
    let in_time : c.in-Ok.in_time ≡ in_time_at c.args.zone.now c.args.self.now c.args.moment c.args.row =
    c.in-Ok.ensures.in_time ∙ ap (λ m. in_time_at c.args.zone.now c.args.self.now m c.args.row) (to_z-of_z w64 c.args.moment c.ranges.moment) in
    let fixes = fixes_reference (tables_in c.args.self.now) c.args.row in
    one_more_row (timetable_of c.args.zone.now c.args.self.now) (accepted_at c.args.moment c.args.row) c.args.self.now.standing c.accept.new.self.standing c.in_ok-accept.field-0
    (ap (λ v. v.standing) c.in_ok-accept.ensures.ok ∙ ap (λ t. standing_with t c.args.row c.args.self.now.standing) in_time)
    fixes (c.in_ok-accept.ensures.done ∙ ap (λ t. row_done t fixes) in_time)

pub returns-clause-serves : goal.returns-clause-serves
returns-clause-serves c whole rows serves =
    let in_time : c.in-Ok.in_time ≡ in_time_at c.args.zone.now c.args.self.now c.args.moment c.args.row =
    c.in-Ok.ensures.in_time ∙ ap (λ m. in_time_at c.args.zone.now c.args.self.now m c.args.row) (to_z-of_z w64 c.args.moment c.ranges.moment) in
    subst (ServesFor rows (register_after c.args.zone.now whole c.args.moment c.args.row))
    (sym (c.in_ok-accept.ensures.ok ∙ ap (λ t. after_row t c.args.row c.args.self.now) in_time))
    (part_serves c.args.zone.now c.args.self.now c.args.moment c.args.row whole rows serves)

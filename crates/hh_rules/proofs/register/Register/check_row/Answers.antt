use Rattle.std.proofs.Common.{◌∙◌, sym, ap, Err, w64}
use Rattle.std.proofs.lemmas.Int.{to_z-of_z}
use Rattle.hh_rules.specs.RegisterView.{judged, refusal_at}
use Rattle.hh_rules.proofs.ServingLaws.{part_judges}
use Rattle.hh_rules.proofs.register.Register.check_row.Goals as goal

pub returns-in-Ok-clause-part : goal.returns-in-Ok-clause-part
returns-in-Ok-clause-part c whole rows serves =
    let passed = to_z-of_z w64 c.args.moment c.ranges.moment in
    sym (ap judged (ap (λ m. refusal_at c.args.zone.now c.args.self.now m c.args.row.now) (sym passed) ∙ c.in-Ok.ensures.accepted))
    ∙ part_judges c.args.zone.now c.args.self.now c.args.moment c.args.row.now whole rows serves

pub returns-in-Err-clause-part : goal.returns-in-Err-clause-part
returns-in-Err-clause-part c whole rows serves =
    let passed = to_z-of_z w64 c.args.moment c.ranges.moment in
    ap Err c.of.ensures
    ∙ sym (ap judged (ap (λ m. refusal_at c.args.zone.now c.args.self.now m c.args.row.now) (sym passed) ∙ c.in-Err.ensures.refused))
    ∙ part_judges c.args.zone.now c.args.self.now c.args.moment c.args.row.now whole rows serves

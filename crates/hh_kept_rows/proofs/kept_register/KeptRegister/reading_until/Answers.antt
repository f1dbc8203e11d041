use Rattle.std.proofs.Common.{◌∙◌, ap, subst, sym}
use Rattle.std.specs.Ordering.{is_lt}
use Rattle.hh_kept_rows.specs.steps.Parts.{NoneAfter}
use Rattle.hh_kept_rows.proofs.UntilLaws.{none_after}
use Rattle.hh_kept_rows.proofs.kept_register.KeptRegister.reading_until.Goals as goal

pub returns-in-Some : goal.returns-in-Some
returns-in-Some c =
    sym (none_after c.in-Some.last c.args.key.now c.args.self.now.meters (subst (λ last. NoneAfter last c.args.self.now.meters) c.in-Some.is c.requires)
    (ap is_lt (sym c.cmp.ensures) ∙ sym c.is_lt.ensures ∙ c.if-is_lt.true))

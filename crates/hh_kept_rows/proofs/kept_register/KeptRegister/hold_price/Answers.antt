use Rattle.std.proofs.Common.{◌≡◌, ◌∙◌, ap, subst, sym}
use Rattle.std.specs.FinMap.{find}
use Rattle.hh_rows.specs.Keys.{settlement_period_cmp}
use Rattle.hh_rules.specs.History.{Registered}
use Rattle.hh_rules.specs.RegisterView.{tables_in}
use Rattle.hh_kept_rows.specs.steps.Parts.{Grows}
use Rattle.hh_kept_rows.proofs.PartLaws.{agrees_price, grows_price, grows_none, no_price}
use Rattle.hh_kept_rows.proofs.kept_register.KeptRegister.hold_price.Goals as goal

pub returns-in_ok-hold_price-in-Some-clause-grows : goal.returns-in_ok-hold_price-in-Some-clause-grows
returns-in_ok-hold_price-in-Some-clause-grows c =
    subst (Grows c.args.self.now c.args.part.now) (sym c.in_ok-hold_price-in-Some.ensures.ok)
    (grows_price c.args.self.now c.args.part.now c.args.at.now c.in-Some.price (sym (c.in-Some.ensures.value ∙ ap (λ (t : Registered). find settlement_period_cmp c.args.at.now t.prices) c.self.view_is)))

pub returns-in_ok-hold_price-in-Some-clause-agrees : goal.returns-in_ok-hold_price-in-Some-clause-agrees
returns-in_ok-hold_price-in-Some-clause-agrees c lead_minutes part =
    subst (λ n. find settlement_period_cmp c.args.at.now (tables_in n).prices ≡ find settlement_period_cmp c.args.at.now c.args.self.now.prices) (sym c.in_ok-hold_price-in-Some.ensures.ok)
    (agrees_price c.args.self.now c.args.part.now c.args.at.now c.in-Some.price (sym (c.in-Some.ensures.value ∙ ap (λ (t : Registered). find settlement_period_cmp c.args.at.now t.prices) c.self.view_is)))

pub returns-in-None-clause-grows : goal.returns-in-None-clause-grows
returns-in-None-clause-grows c = grows_none c.args.self.now c.args.part.now

pub returns-in-None-clause-agrees : goal.returns-in-None-clause-agrees
returns-in-None-clause-agrees c lead_minutes part = no_price c.args.self.now lead_minutes c.args.part.now part c.args.at.now (sym (c.in-None.ensures.value ∙ ap (λ (t : Registered). find settlement_period_cmp c.args.at.now t.prices) c.self.view_is))

use Rattle.std.proofs.Common.{◌≡◌, ◌∙◌, ap, subst, sym}
use Rattle.std.specs.FinMap.{find}
use Rattle.hh_rows.specs.Keys.{contract_key_cmp}
use Rattle.hh_rules.specs.History.{Registered}
use Rattle.hh_rules.specs.RegisterView.{tables_in}
use Rattle.hh_kept_rows.specs.steps.Parts.{Grows}
use Rattle.hh_kept_rows.proofs.PartLaws.{agrees_contract, grows_contract, grows_none, no_contract}
use Rattle.hh_kept_rows.proofs.kept_register.KeptRegister.hold_contract.Goals as goal

pub returns-in_ok-hold_contract-in-Some-clause-grows : goal.returns-in_ok-hold_contract-in-Some-clause-grows
returns-in_ok-hold_contract-in-Some-clause-grows c =
    subst (Grows c.args.self.now c.args.part.now) (sym c.in_ok-hold_contract-in-Some.ensures.ok)
    (grows_contract c.args.self.now c.args.part.now c.args.key.now c.in-Some.volume (sym (c.in-Some.ensures.value ∙ ap (λ (t : Registered). find contract_key_cmp c.args.key.now t.contracts) c.self.view_is)))

pub returns-in_ok-hold_contract-in-Some-clause-agrees : goal.returns-in_ok-hold_contract-in-Some-clause-agrees
returns-in_ok-hold_contract-in-Some-clause-agrees c lead_minutes part =
    subst (λ n. find contract_key_cmp c.args.key.now (tables_in n).contracts ≡ find contract_key_cmp c.args.key.now c.args.self.now.contracts) (sym c.in_ok-hold_contract-in-Some.ensures.ok)
    (agrees_contract c.args.self.now c.args.part.now c.args.key.now c.in-Some.volume (sym (c.in-Some.ensures.value ∙ ap (λ (t : Registered). find contract_key_cmp c.args.key.now t.contracts) c.self.view_is)))

pub returns-in-None-clause-grows : goal.returns-in-None-clause-grows
returns-in-None-clause-grows c = grows_none c.args.self.now c.args.part.now

pub returns-in-None-clause-agrees : goal.returns-in-None-clause-agrees
returns-in-None-clause-agrees c lead_minutes part = no_contract c.args.self.now lead_minutes c.args.part.now part c.args.key.now (sym (c.in-None.ensures.value ∙ ap (λ (t : Registered). find contract_key_cmp c.args.key.now t.contracts) c.self.view_is))

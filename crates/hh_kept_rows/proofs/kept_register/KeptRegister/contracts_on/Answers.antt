use Rattle.std.proofs.Common.{◌∙◌, ap, arith, sym, None, Some}
use Rattle.std.proofs.lemmas.List.{append-nil}
use Rattle.hh_rules.specs.History.{Registered}
use Rattle.hh_kept_rows.specs.steps.KeptContracts.{contract_on}
use Rattle.hh_kept_rows.proofs.ContractLaws.{found_more}
use Rattle.hh_kept_rows.proofs.kept_register.KeptRegister.contracts_on.Goals as goal
use Rattle.hh_kept_rows.proofs.kept_register.KeptRegister.contracts_on.Goals.{in-Some+in_ok-push, in_default}

pub loop-key-preserved : goal.loop-key-preserved
loop-key-preserved c =
    let lent = c.rows-key-items.ensures.value ∙ ap (λ (t : Registered). t.contracts) c.self.view_is in
    elim c.match-contract_on.branch [
      | in-Some+in_ok-push w ↦
          found_more (contract_on c.args.self.now c.args.account.now c.args.date) c.args.self.now.contracts c.rows-key-items.result.now lent c.loop-key.key-index c.loop-key-item.result (omega arith) c.loop-key-item.is
          (Some w.in-Some.row) (sym w.in-Some.is ∙ c.contract_on.ensures) c.loop-key.found.items c.match-contract_on.found.items c.loop-key.invariant (ap (λ v. v.items) w.found-is ∙ w.in_ok-push.ensures.items)
      | in_default w ↦
          found_more (contract_on c.args.self.now c.args.account.now c.args.date) c.args.self.now.contracts c.rows-key-items.result.now lent c.loop-key.key-index c.loop-key-item.result (omega arith) c.loop-key-item.is
          None (sym w.in_default.is ∙ c.contract_on.ensures) c.loop-key.found.items c.match-contract_on.found.items c.loop-key.invariant (ap (λ v. v.items) w.found-is ∙ sym (append-nil c.loop-key.found.items))
    ]

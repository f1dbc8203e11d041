use Rattle.std.proofs.Common.{◌≡◌, ◌∙◌, arith, rules, subst, sym}
use Rattle.std.specs.Prelude.{IsOk}
use Rattle.hh_rules.specs.RegisterView.{held_reallocation}
use Rattle.hh_kept_rows.specs.steps.Parts.{NoneNegative}
use Rattle.hh_store.specs.declared.store_fault.StoreFault.TheVariants.{Memory}
use Rattle.hh_kept_rows.proofs.NamedLaws.{holds_more, skips_more}
use Rattle.hh_kept_rows.proofs.SoundLaws.{takes_more}
use Rattle.hh_kept_rows.proofs.kept_register.KeptRegister.hold_reallocations.Goals as goal
use Rattle.hh_kept_rows.proofs.kept_register.KeptRegister.hold_reallocations.Goals.{then-contains+in_ok-hold_reallocation, else-contains}

pub loop-key-preserved : goal.loop-key-preserved
loop-key-preserved c = elim c.if-contains.branch [
  | then-contains+in_ok-hold_reallocation w ↦
      holds_more c.args.named.now c.args.self.now.reallocations c.reallocation_rows-rows.result.now c.reallocation_rows-rows.ensures.rows c.loop-key.key-index c.loop-key-item.result (omega arith) c.loop-key-item.is
      c.args.part.now c.loop-key.part c.if-contains.part c.loop-key.invariant (sym c.contains.ensures ∙ w.if-contains.true) (w.part-is ∙ w.in_ok-hold_reallocation.ensures.held)
  | else-contains w ↦
      skips_more c.args.named.now c.args.self.now.reallocations c.reallocation_rows-rows.result.now c.reallocation_rows-rows.ensures.rows c.loop-key.key-index c.loop-key-item.result (omega arith) c.loop-key-item.is
      c.args.part.now c.loop-key.part c.if-contains.part c.loop-key.invariant (sym c.contains.ensures ∙ w.if-contains.false) w.part-is
]

pub returns-in_err-hold_reallocation-clause-memory_alone : goal.returns-in_err-hold_reallocation-clause-memory_alone
returns-in_err-hold_reallocation-clause-memory_alone c sound none =
    let takes : IsOk (held_reallocation c.loop-key.part c.loop-key-item.result.0 c.loop-key-item.result.1) =
    takes_more c.args.self.now sound c.reallocation_rows-rows.ensures.rising (subst NoneNegative c.reallocation_rows-rows.ensures.rows c.none_negative.ensures) c.args.named.now c.reallocation_rows-rows.result.now c.reallocation_rows-rows.ensures.rows
    c.loop-key.key-index c.loop-key-item.result (omega arith) c.loop-key-item.is c.args.part.now c.loop-key.part none c.loop-key.invariant in
    let alone : c.in_err-hold_reallocation.field-0.0 ≡ Memory = c.in_err-hold_reallocation.ensures.memory_alone takes in
    search rules

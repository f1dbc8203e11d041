use Rattle.std.proofs.Common.{[], ◌∷◌, ◌++◌, ◌+◌, take, sym, subst, ap, arith, ◌∙◌}
use Rattle.std.specs.List.{AllZip}
use Rattle.std.proofs.lemmas.List.{take_more}
use Rattle.std.proofs.lemmas.Slice.Zip.{all_zipped_more}
use Rattle.hh_kept_rows.specs.DayBeside.{IsStateBeside}
use Rattle.hh_kept_rows.proofs.kept_register.KeptRegister.states_of.Goals as goal

pub loop-at-preserved : goal.loop-at-preserved
loop-at-preserved c =
    let tables = c.args.self.now in
    let beside = c.args.beside.now in
    let periods = c.args.periods.now in
    let i = c.loop-at.at-index in
    let at = c.at-item.result in
    let state = c.in_ok-state.state in
    let more = all_zipped_more (IsStateBeside tables beside) (take i periods) c.loop-at.states.items at state c.loop-at.invariant c.in_ok-state.ensures in
    let next = sym (take_more periods i at (omega arith) ∙ ap (λ a. take i periods ++ a ∷ []) (sym c.at-item.is)) in
    subst (AllZip (IsStateBeside tables beside) (take (i + 1) periods)) (sym c.in_ok-push.ensures.items)
    (subst (λ ps. AllZip (IsStateBeside tables beside) ps (c.loop-at.states.items ++ state ∷ [])) next more)

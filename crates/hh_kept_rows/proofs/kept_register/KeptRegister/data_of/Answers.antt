use Rattle.std.proofs.Common.{inl, [], ◌∷◌, ◌++◌, ◌+◌, take, sym, subst, ap, arith, ◌∙◌}
use Rattle.std.proofs.lemmas.List.{take_more}
use Rattle.std.proofs.lemmas.Slice.Zip.{all_zipped_more}
use Rattle.hh_store.specs.declared.day_data.PeriodState.TheVariants.{Changed}
use Rattle.hh_store.specs.DayReads.{ArePeriodsOf, IsPeriodOf}
use Rattle.hh_kept_rows.proofs.kept_register.KeptRegister.data_of.Goals as goal

pub loop-at-preserved : goal.loop-at-preserved
loop-at-preserved c =
    let tables = c.args.self.now in
    let periods = c.args.periods.now in
    let i = c.loop-at.at-index in
    let at = c.at-item.result in
    let state = Changed c.with_contracts_near.result in
    let more = all_zipped_more (IsPeriodOf tables) (take i periods) c.loop-at.found.items at state c.loop-at.invariant (inl (c.with_contracts_near.ensures ∙ c.in_ok-terms.ensures)) in
    let next = sym (take_more periods i at (omega arith) ∙ ap (λ a. take i periods ++ a ∷ []) (sym c.at-item.is)) in
    subst (ArePeriodsOf tables (take (i + 1) periods)) (sym c.in_ok-push.ensures.items)
    (subst (λ ps. ArePeriodsOf tables ps (c.loop-at.found.items ++ state ∷ [])) next more)

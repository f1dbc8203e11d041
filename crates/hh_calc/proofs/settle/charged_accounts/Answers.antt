use Rattle.std.proofs.Common.{arith, ap, sym, ◌∙◌, ◌≡◌, ◌<◌, ◌≤◌, ◌*◌, ◌^◌, length}
use Rattle.std.specs.Prelude.{unsigned_abs, nat_le}
use Rattle.std.proofs.lemmas.Bool.{and_from, and_left, and_right}
use Rattle.hh_calc.specs.Formulas.{figures, period_sums}
use Rattle.hh_calc.specs.Limits.{are_within, greatest_cash, greatest_energy}
use Rattle.hh_calc.proofs.RowFacts.{widened}
use Rattle.hh_calc.proofs.RowsFacts.{account_more, charge_size, figures_read, kept_none, kept_some, map_next, past_account, residual_more, residual_size, residual_word, sums_read}
use Rattle.hh_calc.proofs.settle.charged_accounts.Goals as goal

pub returns-in_default-clause-too_large : goal.returns-in_default-clause-too_large
returns-in_default-clause-too_large c = λ _.
    let p = c.args.period.now in
    let account = c.index-accounts-place.result in
    let inside : c.loop-place.place < length p.accounts = omega (arith, ap length c.accounts-accounts.ensures) in
    let is = rw c.accounts-accounts.ensures at c.index-accounts-place.is in
    let same = figures_read p c.loop-place.place account inside is c.args.sums.now c.requires.sums c.price.result c.price.ensures in
    past_account p c.loop-place.place account inside is (and_left _ _ (sym (ap are_within same) ∙ kept_none _ _ _ c.figures_within.ensures c.in_default.is))

pub returns-in_default-weight_within-clause-too_large : goal.returns-in_default-weight_within-clause-too_large
returns-in_default-weight_within-clause-too_large c = λ _.
    let p = c.args.period.now in
    let account = c.index-accounts-place.result in
    let inside : c.loop-place.place < length p.accounts = omega (arith, ap length c.accounts-accounts.ensures) in
    let is = rw c.accounts-accounts.ensures at c.index-accounts-place.is in
    let same = sums_read p c.loop-place.place account inside is c.args.sums.now c.requires.sums in
    past_account p c.loop-place.place account inside is
    (and_right _ _ (sym (ap (λ s. nat_le s.weight greatest_energy) same) ∙ kept_none _ _ _ c.weight_within.ensures c.in_default-weight_within.is))

pub loop-place-preserved : goal.loop-place-preserved
loop-place-preserved c =
    let p = c.args.period.now in
    let place = c.loop-place.place in
    let account = c.index-accounts-place.result in
    let inside : place < length p.accounts = omega (arith, ap length c.accounts-accounts.ensures) in
    let is = rw c.accounts-accounts.ensures at c.index-accounts-place.is in
    let sums = sums_read p place account inside is c.args.sums.now c.requires.sums in
    let same = figures_read p place account inside is c.args.sums.now c.requires.sums c.price.result c.price.ensures in
    let (charged, passed) = kept_some _ _ _ _ c.figures_within.ensures c.in-Some.is in
    let (weighed, light) = kept_some _ _ _ _ c.weight_within.ensures c.in-Some-weight_within.is in
    let shown = charged ∙ same in
    let limits = sym (ap are_within same) ∙ passed in
    let weight_limit = sym (ap (λ s. nat_le s.weight greatest_energy) sums) ∙ light in
    let charge : c.in-Some.of_account.charge ≡ (figures p account).charge = ap (λ f. f.charge) shown in
    let paid = c.in-Some.of_account.charge in
    let paid_size : unsigned_abs paid ≤ greatest_cash = rw charge (charge_size (figures p account) limits) in
    let wide = widened paid _ _ c.units.ensures.value (omega arith) c.from-residual.ensures in
    let so_far : unsigned_abs c.loop-place.residual ≤ place * greatest_cash = rw c.loop-place.residual-is at c.loop-place.invariant.small in
    let low : place < 2 ^ 64 = omega arith in
    let held = residual_word _ _ c.loop-place.residual paid c.loop-place.residual-is wide (omega arith) paid_size in
    record {
      charged = map_next (figures p) p.accounts place account inside is _ _ c.loop-place.invariant.charged shown _ c.in_ok-push.ensures.items;
      weighed = map_next (λ a. (period_sums p a).weight) p.accounts place account inside is _ _ c.loop-place.invariant.weighed (weighed ∙ ap (λ s. s.weight) sums) _ c.in_ok-push-2.ensures.items;
      within = account_more p place account inside is c.loop-place.invariant.within (and_from _ _ limits weight_limit);
      residual = held ∙ residual_more (λ a. (figures p a).charge) _ _ account inside is c.loop-place.residual paid (sym c.loop-place.residual-is ∙ c.loop-place.invariant.residual) charge;
      small = rw held (residual_size place c.loop-place.residual paid so_far paid_size);
    }

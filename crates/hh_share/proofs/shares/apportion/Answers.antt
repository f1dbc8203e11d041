use Rattle.std.proofs.Common.{◌≡◌, ◌∙◌, ◌≤◌, ◌<◌, All, ap, length, map, unsigned_abs, subst, sym, arith}
use Rattle.std.specs.Int.{w64}
use Rattle.std.proofs.lemmas.Int.{to_z-of_z}
use Rattle.std.proofs.lemmas.Result.{IfOk-weaker}
use Rattle.hh_share.specs.Shares.{counted_weights, with_sign_of, AreQuotasRounded, SumsTo}
use Rattle.hh_share.specs.steps.Shares.{sizes_by}
use Rattle.std.specs.Prelude.{sum}
use Rattle.hh_share.specs.Departure.{DepartsLeast}
use Rattle.hh_share.proofs.DepartureLaws.{shares_depart_least}
use Rattle.hh_share.proofs.PennyLaws.{shares_are, sizes_within}
use Rattle.hh_share.proofs.QuotaLaws.{quotas_rounded}
use Rattle.hh_share.proofs.SumLaws.{counted_weights_some, length-counted_weights, length-shares, shares_sum, shares_within}
use Rattle.hh_share.proofs.shares.apportion.Goals as goal

pub sizes_of-requires-clause-some : goal.sizes_of-requires-clause-some
sizes_of-requires-clause-some c = λ some.
    let size : c.unsigned_abs.result ≡ unsigned_abs c.args.total = c.unsigned_abs.ensures.value ∙ ap unsigned_abs (to_z-of_z w64 c.args.total c.ranges.total) in
    let weights = c.requires.some (λ none. let h = ap unsigned_abs none in omega arith) in
    let many = ap length (c.deref.ensures.value ∙ c.in_ok-weights.ensures) ∙ length-counted_weights c.args.weights.now in
    omega arith

pub sizes_of-requires-clause-positive : goal.sizes_of-requires-clause-positive
sizes_of-requires-clause-positive c = rw (c.deref.ensures.value ∙ c.in_ok-weights.ensures) (counted_weights_some c.args.weights.now)

pub with_sign-requires : goal.with_sign-requires
with_sign-requires c =
    let positive = subst (λ ws. 0 < length ws → 0 < sum ws) (sym (c.deref.ensures.value ∙ c.in_ok-weights.ensures)) (counted_weights_some c.args.weights.now) in
    rw (c.deref-2.ensures.value ∙ c.in_ok-sizes.ensures, sym c.unsigned_abs.ensures.value) (sizes_within c.unsigned_abs.result c.deref.result.now positive)

exact : goal.returns-clause-shares
exact c =
    let word = to_z-of_z w64 c.args.total c.ranges.total in
    let size : c.unsigned_abs.result ≡ unsigned_abs c.args.total = c.unsigned_abs.ensures.value ∙ ap unsigned_abs word in
    let sizes = c.deref-2.ensures.value ∙ c.in_ok-sizes.ensures ∙ ap (λ n. sizes_by n c.deref.result.now) size in
    IfOk-weaker c.with_sign.result _ _ (λ v e. e ∙ (λ i. map (with_sign_of (word i)) (sizes i)) ∙ shares_are c.args.total c.args.weights.now c.deref.result.now (c.deref.ensures.value ∙ c.in_ok-weights.ensures)) c.with_sign.ensures

pub returns-clause-shares : goal.returns-clause-shares
returns-clause-shares c = exact c

pub returns-clause-length : goal.returns-clause-length
returns-clause-length c =
    IfOk-weaker c.with_sign.result _ _ (λ v e. ap length e ∙ length-shares c.args.total c.args.weights.now) (exact c)

pub returns-clause-sum : goal.returns-clause-sum
returns-clause-sum c =
    let ws = c.args.weights.now in
    IfOk-weaker c.with_sign.result _ _ (λ v e. subst (SumsTo c.args.total) (sym e) (shares_sum c.args.total ws c.requires.some)) (exact c)

pub returns-clause-within : goal.returns-clause-within
returns-clause-within c =
    IfOk-weaker c.with_sign.result _ _ (λ v e. subst (λ items. All (λ s. unsigned_abs s ≤ unsigned_abs c.args.total) items) (sym e) (shares_within c.args.total c.args.weights.now)) (exact c)

pub returns-clause-quota : goal.returns-clause-quota
returns-clause-quota c =
    let ws = c.args.weights.now in
    IfOk-weaker c.with_sign.result _ _ (λ v e. subst (AreQuotasRounded c.args.total (counted_weights ws)) (sym e) (quotas_rounded c.args.total ws)) (exact c)

pub returns-clause-least : goal.returns-clause-least
returns-clause-least c =
    let ws = c.args.weights.now in
    IfOk-weaker c.with_sign.result _ _ (λ v e. subst (DepartsLeast c.args.total (counted_weights ws)) (sym e) (shares_depart_least c.args.total ws)) (exact c)

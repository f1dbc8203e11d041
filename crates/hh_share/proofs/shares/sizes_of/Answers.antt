use Rattle.std.proofs.Common.{◌≡◌, ◌∙◌, ◌<◌, ◌≤◌, ◌-◌, ◌^◌, All, length, map, ap, subst, sym, arith, pos, sum_by}
use Rattle.std.proofs.lemmas.List.{length-map}
use Rattle.std.proofs.lemmas.List.Elements.{All-map}
use Rattle.hh_share.specs.steps.Ranking.{AreFirst, HasPennies}
use Rattle.hh_share.proofs.PennyLaws.{left_within, places_within, sizes_are}
use Rattle.hh_share.proofs.ShareFacts.{length-quotas, lower_within, one_lower_within}
use Rattle.hh_share.proofs.shares.sizes_of.Goals as goal

pub pence_left-left-requires : goal.pence_left-left-requires
pence_left-left-requires c =
    subst (λ qs. sum_by (λ q. q.lower) qs ≤ c.args.size) (sym c.deref.ensures.value)
    (lower_within c.args.size c.args.weights.now c.in_ok-quotas.quotas.items c.requires.positive c.in_ok-quotas.ensures.are)

pub rests_of-requires : goal.rests_of-requires
rests_of-requires c = subst (All (λ q. q.remainder < 2 ^ 127)) (sym c.deref-2.ensures.value) c.in_ok-quotas.ensures.small

pub first_places-requires : goal.first_places-requires
first_places-requires c =
    let quotas = c.in_ok-quotas.quotas.items in
    let rests_are = c.deref-3.ensures.value ∙ c.in_ok-rests_of.ensures ∙ ap (map (λ q. pos q.remainder)) c.deref-2.ensures.value in
    let left_is = c.pence_left-left.ensures ∙ ap (λ qs. c.args.size - sum_by (λ q. q.lower) qs) c.deref.ensures.value in
    left_within c.args.size c.args.weights.now quotas c.requires.positive c.in_ok-quotas.ensures.are c.deref-3.result.now rests_are c.pence_left-left.result c.requires.some left_is

-- the results of the calls so far
module _ (c : goal.After-deref-5) where
  rests_are : c.deref-3.result.now ≡ map (λ q. pos q.remainder) c.in_ok-quotas.quotas.items
  rests_are = c.deref-3.ensures.value ∙ c.in_ok-rests_of.ensures ∙ ap (map (λ q. pos q.remainder)) c.deref-2.ensures.value

  left_is : c.pence_left-left.result ≡ c.args.size - sum_by (λ q. q.lower) c.in_ok-quotas.quotas.items
  left_is = c.pence_left-left.ensures ∙ ap (λ qs. c.args.size - sum_by (λ q. q.lower) qs) c.deref.ensures.value

  first_are : AreFirst c.deref-3.result.now c.pence_left-left.result c.deref-5.result.now
  first_are = subst (AreFirst c.deref-3.result.now c.pence_left-left.result) (sym c.deref-5.ensures.value) c.in_ok-first.ensures

  wholes_are : c.in_ok-whole_pence.field-0.items ≡ map (λ q. q.lower) c.in_ok-quotas.quotas.items
  wholes_are = c.in_ok-whole_pence.ensures ∙ ap (map (λ q. q.lower)) c.deref-4.ensures.value

  wholes_many : length c.in_ok-whole_pence.field-0.items ≡ length c.args.weights.now
  wholes_many = ap length wholes_are ∙ length-map c.in_ok-quotas.quotas.items (λ q. q.lower) ∙ length-quotas c.args.size c.args.weights.now c.in_ok-quotas.quotas.items c.requires.positive c.in_ok-quotas.ensures.are

  rests_many : length c.deref-3.result.now ≡ length c.args.weights.now
  rests_many = ap length rests_are ∙ length-map c.in_ok-quotas.quotas.items (λ q. pos q.remainder) ∙ length-quotas c.args.size c.args.weights.now c.in_ok-quotas.quotas.items c.requires.positive c.in_ok-quotas.ensures.are

pub with_pennies-requires-clause-inside : goal.with_pennies-requires-clause-inside
with_pennies-requires-clause-inside c =
    subst (λ m. All (λ p. p < m) c.deref-5.result.now) (sym (wholes_many c))
    (places_within c.args.size c.args.weights.now c.in_ok-quotas.quotas.items c.requires.positive c.in_ok-quotas.ensures.are c.deref-3.result.now (rests_are c)
    c.pence_left-left.result (left_is c) c.deref-5.result.now (first_are c))

pub with_pennies-requires-clause-few : goal.with_pennies-requires-clause-few
with_pennies-requires-clause-few c =
    let many = (first_are c).many in
    let within = left_within c.args.size c.args.weights.now c.in_ok-quotas.quotas.items c.requires.positive c.in_ok-quotas.ensures.are c.deref-3.result.now (rests_are c)
    c.pence_left-left.result c.requires.some (left_is c) in
    let rests = rests_many c in
    let wholes = wholes_many c in
    omega arith

pub with_pennies-requires-clause-small : goal.with_pennies-requires-clause-small
with_pennies-requires-clause-small c =
    let quotas = c.in_ok-quotas.quotas.items in
    subst (All (λ n. n ≤ 2 ^ 63)) (sym (wholes_are c))
    (All-map (λ n. n ≤ 2 ^ 63) (λ q. q.lower) quotas
    (λ k d inside. let h = one_lower_within c.args.size c.args.weights.now quotas c.requires.positive c.in_ok-quotas.ensures.are k inside d in let small = c.requires.small in omega arith))

pub returns : goal.returns
returns c =
    let quotas = c.in_ok-quotas.quotas.items in
    let rests_are : c.deref-3.result.now ≡ map (λ q. pos q.remainder) quotas = c.deref-3.ensures.value ∙ c.in_ok-rests_of.ensures ∙ ap (map (λ q. pos q.remainder)) c.deref-2.ensures.value in
    let left_is : c.pence_left-left.result ≡ c.args.size - sum_by (λ q. q.lower) quotas = c.pence_left-left.ensures ∙ ap (λ qs. c.args.size - sum_by (λ q. q.lower) qs) c.deref.ensures.value in
    let wholes_are = c.in_ok-whole_pence.ensures ∙ ap (map (λ q. q.lower)) c.deref-4.ensures.value in
    sizes_are c.args.size c.args.weights.now quotas c.requires.positive c.in_ok-quotas.ensures.are c.deref-3.result.now rests_are c.pence_left-left.result left_is c.in_ok-first.first.items c.in_ok-first.ensures
    c.in_ok-whole_pence.field-0.items c.with_pennies.result.items wholes_are
    (subst (λ ps. HasPennies c.in_ok-whole_pence.field-0.items ps c.with_pennies.result.items) c.deref-5.ensures.value c.with_pennies.ensures)

use Rattle.std.proofs.Common.{◌∙◌, subst, ◌<◌, ℕ, get_or, length, take, sym, arith}
use Rattle.std.specs.Prelude.{◌==◌}
use Rattle.std.proofs.lemmas.List.{length-take-le}
use Rattle.std.proofs.lemmas.Grind.{get_or_default_zero}
use Rattle.std.proofs.lemmas.List.Sums.{count_by-le-length}
use Rattle.hh_share.proofs.shares.with_pennies.Goals as goal

pub overflow_add-index_mut : goal.overflow_add-index_mut
overflow_add-index_mut c =
    let index : ℕ = c.loop-place.place-index in
    let place : ℕ = get_or c.args.places.now index 0 in
    let inside : place < length c.args.sizes.items = c.requires.inside index 0 c.loop-place-test.true in
    let is = c.loop-place.invariant.1 place inside in
    let whole = c.requires.small place 0 inside in
    let few = count_by-le-length (λ p. p == place) (take index c.args.places.now) in
    let more = c.requires.few in
    let small = c.args.sizes.small in
    let items = c.loop-place.sizes.items in
    let value = c.index_mut.ensures.value ∙ get_or_default_zero items place _ (subst (λ n. place < n) (sym c.loop-place.invariant.0) inside) in
    let taken = length-take-le index c.args.places.now c.loop-place.auto.place-index-end in
    let held = c.args.sizes.ok in
    record { fits = omega arith }

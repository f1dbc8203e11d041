use Rattle.std.proofs.Common.{◌≡◌, length, refl, arith}
use Rattle.hh_wire.proofs.BodyLemmas.{filled_whole}
use Rattle.hh_wire.proofs.body.read_body.Goals as goal

pub returns-then-branch-clause-body : goal.returns-then-branch-clause-body
returns-then-branch-clause-body g c =
    let kept : length c.fill_body.new.body ≡ length c.deref_mut.result.now = c.fill_body.ensures.kept in
    let size : length c.fill_body.new.body ≡ c.args.size = omega (arith, c.deref_mut.ensures.len, c.in_ok-body.ensures.len) in
    let len : length c.fill_body.new.body ≡ c.in_ok-body.body.len = omega (arith, c.deref_mut.ensures.len) in
    filled_whole (g.S.Source.remaining c.args.source.now) c.args.behind.now c.fill_body.new.body _ _ c.args.size c.in_ok-body.body.len c.min.result _
    c.if-branch.true c.min.ensures size len refl c.in_ok-fill_body.ensures.filled

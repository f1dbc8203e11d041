use Rattle.std.proofs.Common.{take, arith}
use Rattle.std.proofs.KnownBytes.{Consumes-kept}
use Rattle.std.proofs.lemmas.List.{length-take}
use Rattle.std.specs.Io.KnownBytes.{prepend_known}
use Rattle.hh_wire.proofs.BodyLemmas.{on_err}
use Rattle.hh_wire.proofs.body.fill_body.Goals as goal

pub returns-in_err-count-clause-awaited : goal.returns-in_err-count-clause-awaited
returns-in_err-count-clause-awaited g c =
    let l = c.loop-filled in
    let given = take l.filled l.body in
    let remaining = g.S.Source.remaining in
    let consumed = Consumes-kept (prepend_known c.args.at_hand.now (remaining c.args.source.now)) (remaining l.source) (remaining c.fill.new.source) given
    l.invariant.taken c.in_err-count.ensures.untouched in
    on_err c.from_residual.result _ (given, consumed, (omega (arith, length-take l.filled l.body), omega (arith, length-take l.filled l.body)))

use Rattle.std.proofs.Common.{Ok, arith}
use Rattle.hh_http_heads.specs.Heads.{heading_in}
use Rattle.hh_wire.specs.Message.{asked_with}
use Rattle.hh_wire.proofs.TermLemmas.{comes_refused, comes_whole}
use Rattle.hh_wire.proofs.request.read_behind.Goals as goal

pub returns-in_err-request_with-clause-comes : goal.returns-in_err-request_with-clause-comes
returns-in_err-request_with-clause-comes g c =
    let h = heading_in c.args.head.now in
    let refused = comes_refused h (asked_with h c.in_ok-body.body.items) c.in_err-request_with.field-0.0 c.from_residual-in_err-request_with.result
    c.from_residual-in_err-request_with.ensures.1 c.in_err-request_with.ensures in
    comes_whole (g.S.Source.remaining c.args.source.now) h c.in_ok-terms.terms c.unwrap_or-size.result c.args.head.now.behind.now c.in_ok-body.body.items
    c.from_residual-in_err-request_with.result c.in_ok-terms.ensures.kept c.unwrap_or-size.ensures (omega arith) c.in_ok-body.ensures.body refused

pub returns-clause-comes : goal.returns-clause-comes
returns-clause-comes g c =
    let h = heading_in c.args.head.now in
    comes_whole (g.S.Source.remaining c.args.source.now) h c.in_ok-terms.terms c.unwrap_or-size.result c.args.head.now.behind.now c.in_ok-body.body.items
    (Ok c.in_ok-request_with.field-0) c.in_ok-terms.ensures.kept c.unwrap_or-size.ensures (omega arith) c.in_ok-body.ensures.body c.in_ok-request_with.ensures

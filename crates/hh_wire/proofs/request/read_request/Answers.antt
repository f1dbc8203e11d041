use Rattle.std.proofs.Common.{◌≡◌, length, subst, sym, Err, IfSome, arith}
use Rattle.hh_http_heads.specs.Found.{FindsFront}
use Rattle.hh_http_heads.specs.Heads.{heading_in}
use Rattle.hh_wire.specs.Message.{FailsAwaiting, Reads}
use Rattle.hh_wire.specs.declared.incoming.WireFault.{WireFault}
use Rattle.hh_wire.proofs.MessageLemmas.{request_read, stop_awaits, stop_read}
use Rattle.hh_wire.proofs.request.read_request.Goals as goal

pub returns-in-Ok-clause-message : goal.returns-in-Ok-clause-message
returns-in-Ok-clause-message g c =
    let old = g.S.Source.remaining c.args.source.now in
    let mid = g.S.Source.remaining c.read_front.new.source in
    let buffer = c.read_front.new.buffer in
    let headers = c.read_front.new.headers in
    let most : length buffer ≡ 8192 = omega arith in
    let room : length headers ≡ 32 = omega arith in
    let found = subst (FindsFront old mid buffer headers) c.in-Head.is c.in_ok-read_front.ensures.front in
    request_read buffer headers c.in-Head.read c.in-Head.spans most room (heading_in c.of-head.result) c.of-head.result.behind.now
    c.of-head.ensures.says c.of-head.ensures.behind old mid c.in-Ok.request found c.in-Ok.ensures.comes

pub returns-in-Err-clause-message : goal.returns-in-Err-clause-message
returns-in-Err-clause-message g c =
    let old = g.S.Source.remaining c.args.source.now in
    let mid = g.S.Source.remaining c.read_front.new.source in
    let buffer = c.read_front.new.buffer in
    let headers = c.read_front.new.headers in
    let most : length buffer ≡ 8192 = omega arith in
    let room : length headers ≡ 32 = omega arith in
    let found = subst (FindsFront old mid buffer headers) c.in-Head.is c.in_ok-read_front.ensures.front in
    let stopped = stop_read buffer headers c.in-Head.read c.in-Head.spans most room (heading_in c.of-head.result) c.of-head.result.behind.now
    c.of-head.ensures.says c.of-head.ensures.behind old mid c.in-Err.stop found c.in-Err.ensures.comes in
    subst (λ (fault : WireFault). IfSome old (λ bytes. Reads bytes (Err fault))) (sym c.behind.ensures) stopped

pub returns-in-Err-clause-awaited : goal.returns-in-Err-clause-awaited
returns-in-Err-clause-awaited g c =
    let old = g.S.Source.remaining c.args.source.now in
    let mid = g.S.Source.remaining c.read_front.new.source in
    let new = g.S.Source.remaining c.read_behind.new.source in
    let buffer = c.read_front.new.buffer in
    let headers = c.read_front.new.headers in
    let most : length buffer ≡ 8192 = omega arith in
    let room : length headers ≡ 32 = omega arith in
    let found = subst (FindsFront old mid buffer headers) c.in-Head.is c.in_ok-read_front.ensures.front in
    let awaits = stop_awaits buffer headers c.in-Head.read c.in-Head.spans most room (heading_in c.of-head.result) c.of-head.result.behind.now
    c.of-head.ensures.says c.of-head.ensures.behind old mid new c.in-Err.stop found c.in-Err.ensures.awaited in
    subst (λ (fault : WireFault). FailsAwaiting (Err fault) old new) (sym c.behind.ensures) awaits

use Rattle.std.proofs.Common.{◌≡◌, ℕ, ◌+◌, length, take, refl, subst, arith}
use Rattle.httparse.specs.Spans.{RequestOverflows}
use Rattle.std.proofs.KnownBytes.{Consumes-nil}
use Rattle.hh_http_heads.proofs.FrontLemmas.{end_front, full_front, may_at_first, none_at_first, refused_front}
use Rattle.hh_http_heads.proofs.front.read_front.Goals as goal

pub loop-read-init : goal.loop-read-init
loop-read-init g c = record { in_range = omega arith; taken = Consumes-nil _; well = refl; none = none_at_first; may = may_at_first }

pub returns-else-read-eq0-clause-front : goal.returns-else-read-eq0-clause-front
returns-else-read-eq0-clause-front g c =
    end_front (g.S.Source.remaining c.args.source.now) (g.S.Source.remaining c.loop-read.source) c.loop-read.buffer c.loop-read.read
    c.loop-read.invariant.taken (c.in_ok-count.ensures.end c.if-count-eq0.true) (omega arith) (omega arith) c.loop-read.invariant.none

pub returns-in-Refused-clause-front : goal.returns-in-Refused-clause-front
returns-in-Refused-clause-front g c =
    let read = c.loop-read.read + c.in_ok-count.count in
    let room : length c.loop-read.headers ≡ 32 = omega arith in
    refused_front (g.S.Source.remaining c.args.source.now) (g.S.Source.remaining c.fill.new.source) c.fill.new.buffer read
    (c.in_ok-count.ensures.read _ c.loop-read.invariant.taken) (omega arith) (omega (arith, c.in_ok-count.ensures.within))
    (subst (λ (room : ℕ). RequestOverflows room (take read c.fill.new.buffer)) room c.in-Refused.ensures.answer)

pub returns-clause-front : goal.returns-clause-front
returns-clause-front g c =
    full_front (g.S.Source.remaining c.args.source.now) (g.S.Source.remaining c.loop-read.source) c.loop-read.buffer c.loop-read.read
    c.loop-read.invariant.taken (omega arith) (omega arith) c.loop-read.invariant.none

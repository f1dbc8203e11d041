use Rattle.std.proofs.Common.{◌≡◌, rules, subst, arith}
use Rattle.hh_http_serve.specs.Refusals.{CountsMore}
use Rattle.hh_desk.specs.Serving.{ServesEach}
use Rattle.hh_desk.proofs.ServingLaws.{refusals_more, serves_more, serves_none}
use Rattle.hh_desk.proofs.serving.serve_each.Goals as goal

pub loop-init : goal.loop-init
loop-init g c = record {
  serves = λ sure. serves_none _ c.args.office.now.seen g.L.Listener.leads c.args.listener.now g.C.Clock.leads c.args.clock.now;
  refusals_up = λ sure some. omega arith;
  sure = λ sure. sure;
}

pub loop-preserved : goal.loop-preserved
loop-preserved g c =
    let refusals = g.T.Tables.refusals in
    let first = refusals c.args.office.now.tables in
    let mid = refusals c.loop.office.tables in
    let last = refusals c.serve_next.new.office.tables in
    let old = c.args.office.now.seen in
    let now = c.loop.office.seen in
    let new = c.serve_next.new.office.seen in
    record {
      serves = λ sure.
          let standing = c.serve_next.ensures.sure sure in
          serves_more old now new first mid last (c.loop.invariant.refusals_up standing) (c.serve_next.ensures.refusals_up sure)
          g.L.Listener.leads c.args.listener.now c.loop.listener c.serve_next.new.listener g.C.Clock.leads c.args.clock.now c.loop.clock c.serve_next.new.clock
          c.loop.counter (c.loop.invariant.serves standing) (c.serve_next.ensures.serves sure);
      refusals_up = λ sure.
          let standing = c.serve_next.ensures.sure sure in
          refusals_more old now new first mid last (c.loop.invariant.refusals_up standing) (c.serve_next.ensures.refusals_up sure)
          g.L.Listener.leads c.args.listener.now c.loop.listener c.serve_next.new.listener g.C.Clock.leads c.args.clock.now c.loop.clock c.serve_next.new.clock
          c.loop.counter (c.loop.invariant.serves standing);
      sure = λ sure. c.loop.invariant.sure (c.serve_next.ensures.sure sure);
    }

pub returns-clause-serves : goal.returns-clause-serves
returns-clause-serves g c sure =
    let fails = CountsMore (g.T.Tables.refusals c.args.office.now.tables) (g.T.Tables.refusals c.loop.office.tables) in
    let all : c.loop.counter ≡ c.args.count = search rules in
    subst (λ count. ServesEach fails c.args.office.now.seen c.loop.office.seen g.L.Listener.leads c.args.listener.now c.loop.listener
    g.C.Clock.leads c.args.clock.now c.loop.clock count) all (c.loop.invariant.serves sure)

use Rattle.hh_http_serve.specs.Refusals.{CountsUp, HasRefused}
use Rattle.hh_http_serve.specs.Views.{IsSure}
use Rattle.hh_desk.specs.Serving.{ServesEach}
use Rattle.hh_desk.proofs.serving.serve_each.Given as goal

-- the connections so far were served
abbrev pub invariant-loop : goal.invariant-loop
invariant-loop g l = record {
  serves : IsSure g.T.Tables.is_open l.office → ServesEach (HasRefused g.T.Tables.refusals l.fn.office l.office) l.fn.office.seen l.office.seen
      g.L.Listener.leads l.fn.listener l.listener g.C.Clock.leads l.fn.clock l.clock l.counter;
  refusals_up : IsSure g.T.Tables.is_open l.office → CountsUp g.T.Tables.refusals l.fn.office l.office;
  sure : IsSure g.T.Tables.is_open l.office → IsSure g.T.Tables.is_open l.fn.office;
}

use Rattle.std.proofs.Common.{◌≡◌, map, take}
use Rattle.hh_devices.specs.DeviceChanges.{change}
use Rattle.hh_desk.specs.Refusals.{CountsUp, HasRefused}
use Rattle.hh_script.specs.Steps.{step_of}
use Rattle.hh_desk.specs.Views.{IsSure}
use Rattle.hh_session.specs.Course.{AllDone, RunsScript}
use Rattle.hh_session.proofs.run.run_lines.Given as goal

-- the lines so far were run, and all were done if they are strict
abbrev pub invariant-loop-index : goal.invariant-loop-index
invariant-loop-index g l = record {
  run : IsSure g.T.Tables.is_open l.office → RunsScript (g.H.Host.view l.host) (HasRefused g.T.Tables.refusals l.fn.office l.office)
      l.fn.office.seen l.office.seen (change g.O.Sink.taken g.O.Sink.failures l.fn.out l.out) (AllDone l.strict) (map step_of (take l.index l.lines));
  refusals_up : IsSure g.T.Tables.is_open l.office → CountsUp g.T.Tables.refusals l.fn.office l.office;
  sure : IsSure g.T.Tables.is_open l.office → IsSure g.T.Tables.is_open l.fn.office;
  well : g.O.Sink.failures l.out ≡ g.O.Sink.failures l.fn.out;
}

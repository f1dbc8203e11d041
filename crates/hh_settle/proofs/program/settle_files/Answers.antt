use Rattle.std.proofs.Common.{Err, ap}
use Rattle.hh_devices.specs.DeviceChanges.{change}
use Rattle.hh_settle.proofs.StopFacts.{done_by_period, stopped_by_period}
use Rattle.hh_settle.proofs.program.settle_files.Goals as goal

pub returns-clause-done : goal.returns-clause-done
returns-clause-done g c =
    done_by_period (g.H.Host.view c.args.host.now) c.args.most c.requires c.args.words.meter.now c.args.words.contracts.now c.args.words.price.now
    c.in_ok-meter.meter.items c.in_ok-contracts.contracts.items c.in_ok-meter.ensures.bytes c.in_ok-contracts.ensures.bytes
    (change g.O.Sink.taken g.O.Sink.failures c.args.out.now c.period.new.out)
    (rw (c.deref.ensures.value, c.deref-2.ensures.value, c.as_bytes.ensures.value) at c.in_ok-period.ensures.written)

pub returns-in_err-period-clause-stopped : goal.returns-in_err-period-clause-stopped
returns-in_err-period-clause-stopped g c =
    stopped_by_period (g.H.Host.view c.args.host.now) c.args.most c.requires c.args.words.meter.now c.args.words.contracts.now c.args.words.price.now
    c.in_ok-meter.meter.items c.in_ok-contracts.contracts.items c.in_ok-meter.ensures.bytes c.in_ok-contracts.ensures.bytes
    _ c.in_err-period.field-0.0
    record {
      refused = λ e same. rw (c.deref.ensures.value, c.deref-2.ensures.value, c.as_bytes.ensures.value) at c.in_err-period.ensures.refused e (ap Err same);
      untouched = λ e same. ap g.O.Sink.taken (c.in_err-period.ensures.untouched e (ap Err same));
      cut = λ same. rw (c.deref.ensures.value, c.deref-2.ensures.value, c.as_bytes.ensures.value) at c.in_err-period.ensures.cut (ap Err same);
      failed_then = λ same. c.in_err-period.ensures.failed (ap Err same);
    }
    c.from_residual-in_err-period.result c.from_residual-in_err-period.ensures.1

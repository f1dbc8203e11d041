use Rattle.std.proofs.Common.{inr}
use Rattle.hh_devices.specs.DeviceChanges.{change}
use Rattle.hh_http_replies.proofs.RefusedLaws.{writes_refusal}
use Rattle.hh_http_replies.proofs.reply.write_refused.Goals as goal

pub returns-in-Memory : goal.returns-in-Memory
returns-in-Memory g c =
    let w = c.write_whole.ensures in
    writes_refusal (change g.S.Sink.taken g.S.Sink.failures c.args.sink.now c.write_whole.new.sink) c.args.refused.now c.memory_text.result.now
    (inr c.memory_text.ensures) c.write_whole.result w.whole w.front w.failed w.well

pub returns-in-Err : goal.returns-in-Err
returns-in-Err g c =
    let w = c.write_whole-in-Err.ensures in
    writes_refusal (change g.S.Sink.taken g.S.Sink.failures c.args.sink.now c.write_whole-in-Err.new.sink) c.args.refused.now c.memory_text-in-Err.result.now
    (inr c.memory_text-in-Err.ensures) c.write_whole-in-Err.result w.whole w.front w.failed w.well

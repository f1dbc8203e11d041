use Rattle.std.proofs.Common.{◌∙◌, arith}
use Rattle.hh_devices.proofs.DeviceFacts.{sent-more, counted, still-sure}
use Rattle.hh_devices.proofs.sink.write_whole.Goals as goal

pub loop-rest-preserved : goal.loop-rest-preserved
loop-rest-preserved g c =
    let (front, whole, sent) = c.loop-rest.invariant.sent in
    record {
      sent = sent-more _ _ _ _ _ front c.in_ok-count.count c.in_ok-count.ensures.count whole sent c.in_ok-count.ensures.bytes;
      sure = λ h. still-sure c.loop-rest.rest.now _ _ _ _ c.in_ok-count.count (omega arith) c.in_ok-count.ensures.count h (c.loop-rest.invariant.sure h) c.in_ok-count.ensures.assured;
      well = counted c.in_ok-count.count _ _ (omega arith) c.in_ok-count.ensures.failures ∙ c.loop-rest.invariant.well;
    }

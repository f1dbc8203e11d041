use Rattle.std.proofs.Common.{◌≡◌, ◌∙◌, ap, subst}
use Rattle.hh_devices.specs.DeviceChanges.{change}
use Rattle.hh_devices.specs.Devices.{AppendsFront}
use Rattle.hh_desk.specs.declared.told.Told.TheVariants.{Replied}
use Rattle.hh_desk.specs.Lines.{loaded_line, run_line}
use Rattle.hh_desk.specs.Errands.{told_outcome}
use Rattle.hh_desk.proofs.ErrandLaws.{cut_told}
use Rattle.hh_desk.proofs.telling.tell_reply.Goals as goal

pub returns-in_err-write_whole-in-Loaded-clause-told : goal.returns-in_err-write_whole-in-Loaded-clause-told
returns-in_err-write_whole-in-Loaded-clause-told g c =
    let device = change g.O.Sink.taken g.O.Sink.failures c.args.out.now c.write_whole.new.sink in
    let text : c.deref.result.now ≡ loaded_line c.in-Loaded.loaded = c.deref.ensures.0 ∙ c.loaded_line.ensures in
    cut_told device (Replied c.args.reply.now) c.from_residual.result c.from_residual.ensures.1 (loaded_line c.in-Loaded.loaded)
    (ap (λ reply. told_outcome (Replied reply)) c.in-Loaded.is)
    (subst (AppendsFront device.old device.new) text c.in_err-write_whole-in-Loaded.ensures.front)

pub returns-in_err-write_whole-in-Ran-clause-told : goal.returns-in_err-write_whole-in-Ran-clause-told
returns-in_err-write_whole-in-Ran-clause-told g c =
    let device = change g.O.Sink.taken g.O.Sink.failures c.args.out.now c.write_whole-in-Ran.new.sink in
    let line = run_line c.in-Ran.run' c.in-Ran.summary in
    let text : c.deref-in-Ran.result.now ≡ line = c.deref-in-Ran.ensures.0 ∙ c.run_line.ensures in
    cut_told device (Replied c.args.reply.now) c.from_residual-in_err-write_whole-in-Ran.result c.from_residual-in_err-write_whole-in-Ran.ensures.1 line
    (ap (λ reply. told_outcome (Replied reply)) c.in-Ran.is)
    (subst (AppendsFront device.old device.new) text c.in_err-write_whole-in-Ran.ensures.front)

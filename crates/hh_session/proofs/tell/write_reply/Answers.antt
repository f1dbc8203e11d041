use Rattle.std.proofs.Common.{◌≡◌, ◌∙◌, inl, sym, subst}
use Rattle.std.specs.Prelude.{OnErr}
use Rattle.hh_devices.specs.DeviceChanges.{change}
use Rattle.hh_devices.specs.Devices.{AppendsFront}
use Rattle.hh_desk.specs.declared.told.Told.TheVariants.{Replied}
use Rattle.hh_desk.specs.Lines.{run_line}
use Rattle.hh_session.specs.steps.Course.{BeginsLine}
use Rattle.hh_session.proofs.CourseLaws.{OnErr-map}
use Rattle.hh_session.proofs.tell.write_reply.Goals as goal

pub returns-in-Refused-clause-cut : goal.returns-in-Refused-clause-cut
returns-in-Refused-clause-cut g c =
    subst (λ reply. OnErr c.write_refusal.result (BeginsLine (change g.O.Sink.taken g.O.Sink.failures c.args.out.now c.write_refusal.new.out) (Replied reply))) (sym c.in-Refused.is)
    c.write_refusal.ensures.cut

pub returns-in-Ran-clause-cut : goal.returns-in-Ran-clause-cut
returns-in-Ran-clause-cut g c =
    let device = change g.O.Sink.taken g.O.Sink.failures c.args.out.now c.write_whole-in-Ran.new.sink in
    let text : c.deref-in-Ran.result.now ≡ run_line c.in-Ran.run' c.in-Ran.summary = c.deref-in-Ran.ensures.0 ∙ c.run_line.ensures in
    subst (λ reply. OnErr c.write_whole-in-Ran.result (BeginsLine device (Replied reply))) (sym c.in-Ran.is)
    (OnErr-map c.write_whole-in-Ran.result _ _ inl
    (subst (λ bytes. OnErr c.write_whole-in-Ran.result (AppendsFront device.old device.new bytes)) text c.write_whole-in-Ran.ensures.front))

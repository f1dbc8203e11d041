use Rattle.hh_settle.proofs.ResultFacts.{OnOk-map}
use Rattle.hh_settle.proofs.TellFacts.{appends_more}
use Rattle.hh_settle.proofs.telling.write_bad_line.Goals as goal

pub returns-in-Ok-clause-told : goal.returns-in-Ok-clause-told
returns-in-Ok-clause-told g c =
    OnOk-map c.write_whole.result _ _
    (λ went. (_, appends_more (g.S.Sink.taken c.args.sink.now) (g.S.Sink.taken c.write_line.new.sink) (g.S.Sink.taken c.write_whole.new.sink) _ _ c.in_ok-write_line.ensures.told went)) c.write_whole.ensures.whole

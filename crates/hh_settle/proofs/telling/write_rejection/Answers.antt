use Rattle.std.proofs.Common.{inr}
use Rattle.std.specs.Fmt.{digits}
use Rattle.hh_settle.proofs.ResultFacts.{OnOk-map}
use Rattle.hh_settle.proofs.telling.write_rejection.Goals as goal

pub returns-in-Err-clause-told : goal.returns-in-Err-clause-told
unfolding digits
returns-in-Err-clause-told g c = OnOk-map c.write_whole-in-Err.result _ _ (λ went. inr (inr (tt, went))) c.write_whole-in-Err.ensures.whole

use Rattle.std.proofs.Common.{sym, ◌∙◌}
use Rattle.std.specs.Prelude.{is_none}
use Rattle.hh_states.specs.PeriodSettlement.{price_of}
use Rattle.hh_kept_rows.proofs.DayLaws.{not_yet, now_found}
use Rattle.hh_kept_rows.proofs.kept_register.KeptRegister.missing_price.Goals as goal

pub loop-at-preserved : goal.loop-at-preserved
loop-at-preserved c =
    not_yet (λ at. is_none (price_of c.args.self.now at)) c.args.periods.now c.loop-at.at-index c.at-item.result c.loop-at-test.true c.at-item.is c.loop-at.invariant
    (sym c.lacks_price.ensures ∙ c.if-lacks_price.false)

pub returns-then-lacks_price : goal.returns-then-lacks_price
returns-then-lacks_price c =
    sym (now_found (λ at. is_none (price_of c.args.self.now at)) c.args.periods.now c.loop-at.at-index c.at-item.result c.loop-at-test.true c.at-item.is c.loop-at.invariant
    (sym c.lacks_price.ensures ∙ c.if-lacks_price.true))

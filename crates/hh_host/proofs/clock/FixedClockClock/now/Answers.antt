use Rattle.std.proofs.Common.{◌∙◌, ap, rules, Some, w64, SFits}
use Rattle.std.proofs.lemmas.Int.{to_z-of_z}
use Rattle.hh_host.specs.declared.clock.FixedClock.{FixedClock}
use Rattle.hh_host.proofs.ClockLaws.{tell_more}
use Rattle.hh_host.proofs.clock.FixedClockClock.now.Goals as goal

pub returns : goal.returns
returns c =
    let fits : SFits w64 c.args.self.now.moment = search rules in
    λ first readings leads.
    (tell_more first.moment readings _ leads.0 (ap Some (to_z-of_z w64 c.args.self.now.moment fits ∙ ap (λ (clock : FixedClock). clock.moment) leads.1)), leads.1)

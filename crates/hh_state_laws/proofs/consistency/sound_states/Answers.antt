use Rattle.std.proofs.Common.{ap}
use Rattle.std.specs.Prelude.{is_some}
use Rattle.hh_state_laws.proofs.ConsistentLaws.{reached_consistent}
use Rattle.hh_state_laws.proofs.consistency.sound_states.Goals as goal

pub returns : goal.returns
returns c = λ midnight s reached.
    let consistent = reached_consistent midnight s reached in
    record {
      parties = consistent.parties;
      units = consistent.units;
      fixed = λ key in_force. ap is_some (consistent.contracts key in_force).fixed;
      percents = consistent.percents;
    }

use Rattle.std.proofs.Common.{◌≡◌, ◌≤◌, drop, length}
use Rattle.std.specs.Prelude.{vec_capacity}
use Rattle.jiff.specs.Words.{plain_zone}
use Rattle.sqlite_wal.specs.Reads.{AreClean}
use Rattle.hh_time.specs.Zone.{midnight_in}
use Rattle.hh_states.specs.States.{State}
use Rattle.hh_states.specs.Steps.{IsReached}
use Rattle.hh_file_life.specs.Life.{LeaveState, LeaveStates}
use Rattle.hh_file_life.proofs.LifeLaws.{GoesOn}
use Rattle.hh_file_life.proofs.life.run_all.Given as goal

-- the commands so far were run, and there is memory for the other replies
abbrev pub invariant-commands : goal.invariant-commands
invariant-commands g l = record {
  honest : AreClean g.D.Disk l.files.log l.files.db → AreClean g.D.Disk l.fn.files.log l.fn.files.db;
  life : AreClean g.D.Disk l.files.log l.files.db → (s : State) → IsReached (midnight_in (plain_zone l.zone)) s
      → LeaveState g.D.Disk l.fn.files (midnight_in (plain_zone l.zone)) s
      → LeaveStates g.D.Disk l.files (midnight_in (plain_zone l.zone)) (GoesOn (midnight_in (plain_zone l.zone)) s l.commands l.replies.items (drop l.command-index l.commands));
  count : length l.replies.items ≡ l.command-index;
  room : length l.commands ≤ vec_capacity l.replies;
}

-- In each state that the machine reaches, files are within their limits, and no party has the operator's key.
use Rattle.std.specs.Prelude.{◌≢◌, ◌+◌, ◌≤◌, length, IsTrue}
use Rattle.std.specs.List.{AllByRecursion}
use Rattle.hh_rules.specs.Days.{Midnights}
use Rattle.hh_rules.specs.Words.{is_file_name}
use Rattle.hh_rules.specs.RowKinds.{most_bytes, most_rows}
use Rattle.hh_states.specs.declared.file_key.FileKey.{FileKey}
use Rattle.hh_states.specs.States.{KeptFileView, State}
use Rattle.hh_states.specs.Steps.{IsReached, registered_at}

-- a file that is kept has a name in its grammar, and no more bytes and rows than it may have
pub record IsKeptFile (key : FileKey) (file : KeptFileView) : Type 0 where
  pub named : IsTrue (is_file_name key.name)
  pub small : length file.body ≤ most_bytes
  pub few : file.applied + file.late ≤ most_rows

-- this holds for each file that was accepted in a state that the machine reaches
abbrev pub ReachedFiles : Type 0
ReachedFiles = (midnight : Midnights) (s : State) → IsReached midnight s → AllByRecursion (λ f. IsKeptFile f.0 f.1) s.files

-- in each state that the machine reaches, no party is registered with the operator's key
abbrev pub KeysNeverMeet : Type 0
KeysNeverMeet = (midnight : Midnights) (s : State) → IsReached midnight s
    → AllByRecursion (λ p. p.1.key ≢ s.settings.operator_key) (registered_at midnight s).parties

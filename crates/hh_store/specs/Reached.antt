-- The tables that an office of the machine can have.
use Rattle.hh_time.specs.Days.{Midnights}
use Rattle.hh_states.specs.Changes.{TablesRepresent}
use Rattle.hh_states.specs.Content.{Content}
use Rattle.hh_states.specs.States.{State}

-- these are the tables of some state that the machine reaches
abbrev pub AreReached : Content → Type 0
AreReached content = (midnight : Midnights) × (s : State) × TablesRepresent midnight content s

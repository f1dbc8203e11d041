-- What came of the lines of a script.
use Rattle.std.specs.Prelude.{Bool, true, false}
use Rattle.hh_session.specs.declared.notes.Came.{Came}
use Rattle.hh_session.specs.declared.notes.Came.TheVariants.{Done, NoSocket, Refused, Unreadable}

-- a line was done
abbrev pub was_done : Came → Bool
was_done (Done late) = true
was_done (Refused fault) = false
was_done Unreadable = false
was_done NoSocket = false

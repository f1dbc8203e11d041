-- Why a script is not run, given the fault of one of its parts.
use Rattle.hh_inputs.specs.declared.inputs.InputFault.{InputFault}
use Rattle.hh_inputs.specs.declared.inputs.InputFault.TheVariants as input
use Rattle.hh_names.specs.Faults.{memory_fault}
use Rattle.hh_script.specs.declared.script.ScriptFault.{ScriptFault}
use Rattle.hh_script.specs.declared.script.ScriptFault.TheVariants as script
use Rattle.hh_session.specs.declared.script.ScriptStop.{ScriptStop}
use Rattle.hh_session.specs.declared.script.ScriptStop.TheVariants.{Early, File, BadLine, Refused}

-- why a script is not run if the bytes of its file cannot be had
abbrev pub unread_stop : InputFault → ScriptStop
unread_stop input.Unreadable = File
unread_stop input.Memory = Refused memory_fault

-- why a script is not run if its bytes are no script
abbrev pub fault_stop : ScriptFault → ScriptStop
fault_stop (script.BadLine line word) = BadLine line word
fault_stop script.Memory = Refused memory_fault

-- no line of the script was run
abbrev pub IsUnrun : ScriptStop → Type 0
IsUnrun (Early why) = ⊥
IsUnrun _ = Unit {0}

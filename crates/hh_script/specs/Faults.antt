-- Why a script is not read.
use Rattle.std.specs.Prelude.{◌≡◌, ℕ, List, Some, None}
use Rattle.hh_script.specs.Script.{first_bad_line, script_value}
use Rattle.hh_script.specs.declared.script.ScriptFault.{ScriptFault}
use Rattle.hh_script.specs.declared.script.ScriptFault.TheVariants.{BadLine, Memory}

-- the fault is the first line that is off its form, or memory was refused
abbrev pub IsFaultOf : List ℕ → ScriptFault → Type 0
IsFaultOf bytes (BadLine line word) = (script_value bytes ≡ None) × (first_bad_line bytes ≡ Some line)
IsFaultOf bytes Memory = Unit {0}

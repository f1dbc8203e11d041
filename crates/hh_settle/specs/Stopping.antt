-- Why a command stops, given the fault of one of its parts.
use Rattle.std.specs.Prelude.{None}
use Rattle.hh_inputs.specs.declared.inputs.InputFault.{InputFault}
use Rattle.hh_inputs.specs.declared.inputs.InputFault.TheVariants.{Unreadable, Memory}
use Rattle.hh_kept_office.specs.run.LinesStop.TheVariants as lines
use Rattle.hh_kept_office.specs.script.ScriptStop.{ScriptStop}
use Rattle.hh_kept_office.specs.script.ScriptStop.TheVariants as script
use Rattle.hh_period.specs.declared.inputs.PeriodFault.{PeriodFault}
use Rattle.hh_period.specs.declared.inputs.PeriodFault.TheVariants as period
use Rattle.hh_period.specs.Outcome.{memory_rejection}
use Rattle.hh_settle.specs.declared.stop.Stop.{Stop}
use Rattle.hh_settle.specs.declared.stop.Stop.TheVariants as stop

-- why a command stops if the bytes of a file cannot be had
abbrev pub input_stop : InputFault → Stop
input_stop Unreadable = stop.File
input_stop Memory = stop.Refused memory_rejection

-- why a command stops if its period has a fault
abbrev pub period_stop : PeriodFault → Stop
period_stop (period.Refused e) = stop.Refused e
period_stop period.Write = stop.Output

-- why a command stops if its script is not run, or not to its end
abbrev pub script_stop : ScriptStop → Stop
script_stop script.File = stop.File
script_stop (script.BadLine line word) = stop.BadLine line word
script_stop (script.Refused fault) = stop.Refused (record { fault = fault; input = None })
script_stop (script.Early lines.Output) = stop.Output
script_stop (script.Early (lines.Line number)) = stop.Line number

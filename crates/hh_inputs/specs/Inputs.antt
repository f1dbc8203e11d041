-- Why the bytes of a file cannot be had.
use Rattle.std.specs.declared.io.ErrorKind.{ErrorKind}
use Rattle.std.specs.declared.io.ErrorKind.TheVariants.{OutOfMemory}
use Rattle.hh_inputs.specs.declared.inputs.InputFault.{InputFault}
use Rattle.hh_inputs.specs.declared.inputs.InputFault.TheVariants.{Unreadable, Memory}

-- refused memory is told as such, and every other error means that the file is unreadable
abbrev pub input_fault : ErrorKind → InputFault
input_fault OutOfMemory = Memory
input_fault _ = Unreadable

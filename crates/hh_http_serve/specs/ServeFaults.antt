-- Why a connection is not served to its end if its reply was not written.
use Rattle.hh_wire.specs.reply.WriteFault.{WriteFault}
use Rattle.hh_wire.specs.reply.WriteFault.TheVariants as write
use Rattle.hh_http_serve.specs.declared.serve.ServeFault.{ServeFault}
use Rattle.hh_http_serve.specs.declared.serve.ServeFault.TheVariants.{Memory, Write}

-- the fault of serving if a reply was not written
abbrev pub serve_fault : WriteFault → ServeFault
serve_fault write.Write = Write
serve_fault write.Memory = Memory

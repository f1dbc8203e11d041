use Rattle.std.proofs.Common.{take, map}
use Rattle.httparse.specs.Spans.{header_bytes}
use Rattle.hh_http_heads.specs.steps.Fields.{IsField}
use Rattle.hh_http_heads.specs.Headings.{values_in}
use Rattle.hh_http_heads.proofs.field.find.Given as goal

-- the field is that of the headers so far
abbrev pub invariant-loop-header : goal.invariant-loop-header
invariant-loop-header l = IsField (values_in l.name (map (header_bytes l.bytes) (take l.header-index l.headers))) l.field

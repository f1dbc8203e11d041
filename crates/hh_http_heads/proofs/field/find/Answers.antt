use Rattle.std.proofs.Common.{refl}
use Rattle.hh_http_heads.proofs.FieldLemmas.{field_more}
use Rattle.hh_http_heads.proofs.field.find.Goals as goal

pub loop-header-preserved : goal.loop-header-preserved
loop-header-preserved c =
    let with_this = c.with_header-field.ensures _ c.loop-header.invariant in
    field_more c.args.bytes.now c.args.name.now c.args.headers.now c.loop-header.header-index _ _ c.with_header-field.result c.loop-header-test.true refl with_this

use Rattle.std.proofs.lemmas.Result.{IfOk-weaker}
use Rattle.sqlite.specs.Held.{state}
use Rattle.hh_rules.specs.RegisterView.{ServesFor}
use Rattle.hh_sqlparts.specs.Parts.{whole_of}
use Rattle.hh_sqlrows.specs.Contents.{registered_of}
use Rattle.hh_sqlstore.proofs.parts.register_of.Goals as goal

pub returns-clause-value : goal.returns-clause-value
returns-clause-value g c stands office settled =
    let rows = c.args.rows.now in
    let whole = whole_of c.args.lead_minutes (registered_of (state g.S.Store c.args.conn.now).now.trees) in
    let middle = whole_of c.args.lead_minutes c.in_ok-part.part in
    IfOk-weaker c.register_for.result (ServesFor rows middle) (ServesFor rows whole)
    (λ register serves. c.parts_of_parts.ensures rows whole middle register (c.in_ok-part.ensures.value stands office settled c.args.lead_minutes) serves) c.register_for.ensures.serves

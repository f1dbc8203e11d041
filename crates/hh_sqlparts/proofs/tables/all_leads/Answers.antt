use Rattle.std.proofs.Common.{◌≡◌, [], ◌∙◌, ap, subst}
use Rattle.std.specs.Prelude.{IfOk}
use Rattle.sqlite.specs.Held.{state}
use Rattle.hh_tables.specs.Tables.{put_all}
use Rattle.hh_rows.specs.Keys.{lead_key_cmp}
use Rattle.hh_registrations.specs.Registrations.{Leads}
use Rattle.hh_sqlparts.proofs.UnitStepLaws.{leads_again}
use Rattle.hh_sqlparts.proofs.tables.all_leads.Goals as goal

pub returns-clause-value : goal.returns-clause-value
returns-clause-value g c stands office =
    let old = state g.S.Store c.args.conn.now in
    subst (λ (es : Leads). IfOk c.lead_table_of.result (λ table. table ≡ es))
    (ap (λ (rows : Leads). put_all lead_key_cmp rows []) (c.deref.ensures.value ∙ c.in_ok-rows.ensures.value stands office) ∙ leads_again old.now.trees)
    c.lead_table_of.ensures

use Rattle.std.proofs.Common.{◌∙◌, ap, sym}
use Rattle.std.specs.FinMap.{put}
use Rattle.hh_tables.specs.Tables.{without}
use Rattle.hh_tables.proofs.MergeLaws.{from_true}
use Rattle.hh_rows.specs.Keys.{lead_key_cmp}
use Rattle.hh_registrations.specs.Registrations.{beside_former}
use Rattle.hh_registrations.proofs.ChangeLaws.{keys_apart, keys_same, replaced_itself, replaced_other}
use Rattle.hh_registrations.proofs.leads.put_lead.Goals as goal

pub returns-then-ne-clause-ok : goal.returns-then-ne-clause-ok
returns-then-ne-clause-ok c =
    c.remove.ensures ∙ ap (without lead_key_cmp c.in-Replaced.key) c.in_ok-put-in-Replaced.ensures.ok
    ∙ replaced_other c.args.change.now.key c.args.change.now.term c.in-Replaced.key c.args.leads.now (from_true _ c.requires.rising) (keys_apart c.in-Replaced.key c.args.change.now.key (sym c.if-ne.ensures))
    ∙ ap (λ f. put lead_key_cmp c.args.change.now.key c.args.change.now.term (beside_former f c.args.leads.now)) (sym c.in-Replaced.is)

pub returns-else-ne-clause-ok : goal.returns-else-ne-clause-ok
returns-else-ne-clause-ok c =
    c.in_ok-put-in-Replaced.ensures.ok
    ∙ replaced_itself c.args.change.now.key c.args.change.now.term c.in-Replaced.key c.args.leads.now (from_true _ c.requires.rising) (keys_same c.in-Replaced.key c.args.change.now.key (sym c.if-ne.ensures))
    ∙ ap (λ f. put lead_key_cmp c.args.change.now.key c.args.change.now.term (beside_former f c.args.leads.now)) (sym c.in-Replaced.is)

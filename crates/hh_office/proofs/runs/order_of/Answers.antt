use Rattle.std.proofs.Common.{Ok, ap, subst, sym, ◌∙◌}
use Rattle.hh_runs.specs.NextRun.{next_run}
use Rattle.hh_runs.specs.RunKinds.{run_kind_cmp}
use Rattle.hh_office.proofs.RunLaws.{first_found, next_told, order_kept, order_new, order_refused, tells_next}
use Rattle.std.specs.Prelude.{map, IfErr}
use Rattle.hh_runs.specs.declared.run_kind.RunKind.{RunKind}
use Rattle.hh_runs.specs.declared.summary.Summary.{Summary}
use Rattle.hh_office.specs.Refusals.{IsElsewhere}
use Rattle.hh_office.proofs.RefusalLaws.{next_elsewhere}
use Rattle.hh_office.proofs.runs.order_of.Goals as goal

pub returns-in-Ok-Kept-clause-told : goal.returns-in-Ok-Kept-clause-told
returns-in-Ok-Kept-clause-told c =
    let runs = c.args.runs.now in
    let kind = c.args.kind in
    let is = c.next_kind.ensures ∙ ap (λ kinds. next_run kinds kind) (c.deref.ensures.value ∙ c.in_ok-kinds.ensures) in
    order_kept runs kind c.summary_of.result (c.summary_of.ensures ∙ first_found run_kind_cmp kind runs)
    (subst (tells_next runs kind) (sym is ∙ c.in-Ok-Kept.is ∙ ap Ok c.in-Ok-Kept.field-0-is) (next_told runs kind))

pub returns-in-Ok-New-clause-told : goal.returns-in-Ok-New-clause-told
returns-in-Ok-New-clause-told c =
    let runs = c.args.runs.now in
    let kind = c.args.kind in
    let is = c.next_kind.ensures ∙ ap (λ kinds. next_run kinds kind) (c.deref.ensures.value ∙ c.in_ok-kinds.ensures) in
    order_new runs kind (subst (tells_next runs kind) (sym is ∙ c.in-Ok-New.is ∙ ap Ok c.in-Ok-New.field-0-is) (next_told runs kind))

pub returns-clause-told : goal.returns-clause-told
returns-clause-told c =
    let runs = c.args.runs.now in
    let kind = c.args.kind in
    let is = c.next_kind.ensures ∙ ap (λ kinds. next_run kinds kind) (c.deref.ensures.value ∙ c.in_ok-kinds.ensures) in
    order_refused runs kind c.in-Err.fault (subst (tells_next runs kind) (sym is ∙ c.in-Err.is) (next_told runs kind))

pub returns-clause-elsewhere : goal.returns-clause-elsewhere
returns-clause-elsewhere c =
    let runs = c.args.runs.now in
    let kind = c.args.kind in
    let is = c.next_kind.ensures ∙ ap (λ kinds. next_run kinds kind) (c.deref.ensures.value ∙ c.in_ok-kinds.ensures) in
    subst (λ r. IfErr r IsElsewhere) (sym is ∙ c.in-Err.is) (next_elsewhere (map (λ (r : RunKind × Summary). r.0) runs) kind)

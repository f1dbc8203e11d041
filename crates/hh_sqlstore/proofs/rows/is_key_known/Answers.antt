use Rattle.std.proofs.Common.{◌∙◌, ap}
use Rattle.std.specs.Prelude.{bytes_eq}
use Rattle.std.specs.List.{list_any}
use Rattle.hh_sqlstore.proofs.rows.is_key_known.Goals as goal

pub returns-clause-value : goal.returns-clause-value
returns-clause-value g c stands office settled =
    c.has_key.ensures ∙ ap (list_any (λ e. bytes_eq e.1.key c.args.key.now)) (c.deref.ensures.value ∙ c.in_ok-parties.ensures.value stands office)

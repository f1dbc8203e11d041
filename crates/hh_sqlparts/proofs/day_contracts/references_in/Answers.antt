use Rattle.std.proofs.Common.{ap, ◌∙◌}
use Rattle.std.specs.List.{dedup}
use Rattle.std.specs.Str.{bytes_eq}
use Rattle.std.proofs.lemmas.List.Filters.{dedup_is}
use Rattle.hh_sqlparts.proofs.day_contracts.references_in.Goals as goal

pub returns : goal.returns
returns c = dedup_is bytes_eq _ _ c.dedup.ensures.filtered ∙ ap (dedup bytes_eq) c.in_ok-named.ensures

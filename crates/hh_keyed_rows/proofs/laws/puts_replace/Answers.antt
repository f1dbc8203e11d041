use Rattle.hh_keyed_rows.proofs.RowLaws.{replaces}
use Rattle.hh_keyed_rows.proofs.laws.puts_replace.Goals as goal

pub returns : goal.returns
returns g c = replaces g.K.Columned.codec g.V.Columned.codec

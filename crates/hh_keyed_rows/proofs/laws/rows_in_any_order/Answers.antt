use Rattle.hh_keyed_rows.proofs.RowLaws.{in_any_order}
use Rattle.hh_keyed_rows.proofs.laws.rows_in_any_order.Goals as goal

pub returns : goal.returns
returns g c = in_any_order g.K.Columned.codec g.V.Columned.codec

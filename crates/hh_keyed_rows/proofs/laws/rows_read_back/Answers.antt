use Rattle.hh_keyed_rows.proofs.RowLaws.{read_back}
use Rattle.hh_keyed_rows.proofs.laws.rows_read_back.Goals as goal

pub returns : goal.returns
returns g c = read_back g.K.Columned.codec g.V.Columned.codec

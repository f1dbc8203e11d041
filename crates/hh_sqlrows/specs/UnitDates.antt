-- A unit and a date as columns.
use Rattle.hh_keyed_rows.specs.Codecs.{Codec, both, via}
use Rattle.hh_keyed_rows.specs.Fields.{date_column, unit_column}
use Rattle.hh_sqlrows.specs.declared.unit_date.UnitDate.{UnitDate}

-- unit, date
abbrev pub unit_date_columns : Codec UnitDate
unit_date_columns = via (λ p. record { unit = p.0; date = p.1 }) (λ u. (u.unit, u.date)) (both unit_column date_column)

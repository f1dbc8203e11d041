-- Room for a row among the percentages in force.
use Rattle.std.specs.Prelude.{◌≡◌, ◌<◌, ◌≤ℤ◌, ◌+ℤ◌, Bool, true, None}
use Rattle.std.specs.FinMap.{find}
use Rattle.hh_names.specs.Accounts.{bytes_cmp}
use Rattle.hh_rows.specs.declared.rows.Row.{Row}
use Rattle.hh_rows.specs.declared.rows.Row.TheVariants as row
use Rattle.hh_rows.specs.Quantities.{hundred_percent}
use Rattle.hh_rules.specs.Percents.{percent_of_others}
use Rattle.hh_rules.specs.Refusals.{Standing, most_parties, most_units}

-- the row would take no number above its limit
abbrev pub HasRoomFor : Bool → Row → Standing → Type 0
HasRoomFor in_time (row.Party r) standing =
    find bytes_cmp r.party standing.tables.parties ≡ None → standing.party_count < most_parties
HasRoomFor in_time (row.Unit r) standing =
    find bytes_cmp r.unit standing.tables.units ≡ None → standing.unit_count < most_units
HasRoomFor in_time (row.Reallocation r) standing =
    in_time ≡ true → (percent_of_others r.key standing.tables.reallocations +ℤ r.reallocation.percent) ≤ℤ hundred_percent
HasRoomFor in_time _ standing = Unit {0}

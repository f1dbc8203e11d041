-- The counts of parties and units are the lengths of their tables, row after row.
use Rattle.std.proofs.Common.{◌≡◌, Bool, [], ◌∷◌, ◌++◌, length, refl, sym, ap, ◌∙◌}
use Rattle.std.specs.Prelude.{T}
use Rattle.std.specs.FinMap.{find, is_sorted}
use Rattle.std.specs.FinMap.Entries.{length-put}
use Rattle.hh_tables.proofs.TableLaws.{is_sorted-in_key_order}
use Rattle.hh_tables.specs.Tables.{latest}
use Rattle.hh_names.specs.Accounts.{bytes_cmp}
use Rattle.hh_names.proofs.AccountLaws.{bytes_total}
use Rattle.hh_rows.specs.declared.rows.Row.{Row}
use Rattle.hh_rows.specs.declared.rows.Row.TheVariants as row
use Rattle.hh_registrations.specs.Registrations.{widened}
use Rattle.hh_rules.specs.Effects.{count_new, standing_with, with_row}
use Rattle.hh_rules.specs.Entries.{party_entry, unit_entry}
use Rattle.hh_rules.specs.History.{History, Registered, entries_of, registered_in}
use Rattle.hh_rules.specs.Lateness.{Timetable, Accepted, is_in_time}
use Rattle.hh_rules.specs.Refusals.{whole_standing}
use Rattle.hh_rules.proofs.HistoryLaws.{looks_back, units-rise}

module _ (in_time : Bool) (tables : Registered) where
  -- a party is counted if it is new
  party_count-with : (r : Row) → T (is_sorted bytes_cmp tables.parties)
      → count_new bytes_cmp (party_entry r) tables.parties (length tables.parties) ≡ length (with_row in_time r tables).parties
  party_count-with (row.Party r) sorted = sym (length-put bytes_cmp bytes_total r.party r.registration tables.parties sorted)
  party_count-with (row.Unit r) sorted = refl
  party_count-with (row.Meter r) sorted = refl
  party_count-with (row.Price r) sorted = refl
  party_count-with (row.Contract r) sorted = refl
  party_count-with (row.Reallocation r) sorted = refl

  -- a unit is counted if it is new
  unit_count-with : (r : Row) → T (is_sorted bytes_cmp tables.units)
      → count_new bytes_cmp (unit_entry r) tables.units (length tables.units) ≡ length (with_row in_time r tables).units
  unit_count-with (row.Party r) sorted = refl
  unit_count-with (row.Unit r) sorted = sym (length-put bytes_cmp bytes_total r.unit (widened (find bytes_cmp r.unit tables.units) r.registration) tables.units sorted)
  unit_count-with (row.Meter r) sorted = refl
  unit_count-with (row.Price r) sorted = refl
  unit_count-with (row.Contract r) sorted = refl
  unit_count-with (row.Reallocation r) sorted = refl

-- what is registered and in force by a history, after one more row
pub standing-append : (timetable : Timetable) (history : History) (a : Accepted)
    → standing_with (is_in_time timetable a) a.row (whole_standing (registered_in timetable history)) ≡ whole_standing (registered_in timetable (history ++ a ∷ []))
standing-append timetable history a =
    let in_time : Bool = is_in_time timetable a in
    let tables : Registered = registered_in timetable history in
    let parties = party_count-with in_time tables a.row (is_sorted-in_key_order bytes_total (latest bytes_cmp (entries_of party_entry history))) in
    let units = unit_count-with in_time tables a.row (units-rise [] history tt) in
    (λ i. record { tables = with_row in_time a.row tables; party_count = parties i; unit_count = units i })
    ∙ ap whole_standing (sym (looks_back timetable history a))

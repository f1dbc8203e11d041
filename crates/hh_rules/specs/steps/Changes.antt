-- The steps by which a further row of a known unit is judged.
use Rattle.std.specs.Prelude.{nat_lt, List, [], ◌∷◌, Bool, not, ◌||◌}
use Rattle.std.specs.Ordering.{eq_by_cmp}
use Rattle.hh_names.specs.declared.fault.Refusal.{Refusal}
use Rattle.hh_names.specs.declared.fault.Refusal.TheVariants as refusal
use Rattle.hh_names.specs.Accounts.{bytes_cmp}
use Rattle.hh_rows.specs.declared.keys.ReallocationKey.{ReallocationKey}
use Rattle.hh_rows.specs.declared.rows.UnitRegistration.{UnitRegistration}
use Rattle.hh_rows.specs.declared.rows.UnitRow.{UnitRow}
use Rattle.hh_registrations.specs.Registrations.{Lead}
use Rattle.hh_rules.specs.Refusals.{Standing, is_shrunk, is_subsidiary_put_first, is_unit_moved}

-- the refusals of a row of a known unit with this last registration
abbrev pub change_refusals : Standing → UnitRow → UnitRegistration → Lead → List (Refusal × Bool)
change_refusals standing r known last =
    (refusal.ShrinksRange, is_shrunk known last r.registration)
    ∷ (refusal.UnitMoved, is_unit_moved known last r.registration)
    ∷ (refusal.LeadIsSubsidiary, is_subsidiary_put_first standing r last)
    ∷ []

-- the key is of another unit than the row's, or of a date behind the row's dates
abbrev pub is_past : UnitRow → ReallocationKey → Bool
is_past r key = not (eq_by_cmp bytes_cmp key.unit_period.unit r.unit) || nat_lt r.registration.range.to key.unit_period.at.date

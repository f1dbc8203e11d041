-- One registration for each unit is a table in the order of its keys, if the units are.
use Rattle.std.proofs.Common.{◌≡◌, ℕ, List, [], ◌∷◌, sym, subst}
use Rattle.std.specs.Prelude.{T}
use Rattle.std.specs.FinMap.{is_sorted}
use Rattle.std.specs.FinMap.Entries.{below_all}
use Rattle.std.specs.Ordering.{is_lt, nat_cmp, ordering_then}
use Rattle.hh_tables.specs.Tables.{Table, put_all}
use Rattle.hh_tables.proofs.RowLaws.{both, first, less, second}
use Rattle.hh_names.specs.Accounts.{bytes_cmp}
use Rattle.hh_rows.specs.Keys.{lead_key_cmp}
use Rattle.hh_rows.specs.declared.rows.UnitRegistration.{UnitRegistration}
use Rattle.hh_registrations.specs.Registrations.{one_lead_each}

below_leads : (unit : List ℕ) (from : ℕ) (es : Table (List ℕ) UnitRegistration) → T (below_all bytes_cmp unit es) → T (below_all lead_key_cmp (record { unit = unit; from = from }) (one_lead_each es))
below_leads unit from [] below = tt
below_leads unit from (e ∷ es) below =
    both _ _ (subst (λ r. T (is_lt (ordering_then r (nat_cmp from e.1.range.from)))) (sym (less (bytes_cmp unit e.0) (first _ _ below))) tt) (below_leads unit from es (second _ _ below))

pub leads_rise : (es : Table (List ℕ) UnitRegistration) → T (is_sorted bytes_cmp es) → T (is_sorted lead_key_cmp (one_lead_each es))
leads_rise [] rises = tt
leads_rise (e ∷ es) rises = both _ _ (below_leads e.0 e.1.range.from es (first _ _ rises)) (leads_rise es (second _ _ rises))

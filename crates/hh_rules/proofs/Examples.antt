-- Late rows, rows that come again, and refusals: computed examples.
use Rattle.std.proofs.Common.{◌≡◌, ℕ, List, [], ◌∷◌, ◌++◌, refl, Some, None, false, Option}
use Rattle.std.specs.Prelude.{ℤ, pos, codes, ◌+◌, ◌-◌, ◌*◌, map}
use Rattle.hh_names.specs.declared.account.Account.{Account}
use Rattle.hh_names.specs.declared.account.Side.TheVariants.{Production, Consumption}
use Rattle.hh_names.specs.declared.fault.Refusal.{Refusal}
use Rattle.hh_names.specs.declared.fault.Refusal.TheVariants as refusal
use Rattle.hh_rows.specs.DateRanges.{Range}
use Rattle.hh_rows.specs.declared.rows.Row.{Row}
use Rattle.hh_rows.specs.declared.rows.Row.TheVariants as row
use Rattle.hh_rows.specs.declared.settlement_period.SettlementPeriod.{SettlementPeriod}
use Rattle.hh_names.specs.Faults.{first_met}
use Rattle.hh_rules.specs.History.{History, registered_in}
use Rattle.hh_rules.specs.Lateness.{Timetable, Accepted, accepted_at, timing_of}
use Rattle.hh_rules.specs.Refusals.{refusals_of, whole_standing}

-- 2024-07-01 is day 19905 and begins at 1719788400; each day here has 48 periods
abbrev summer : Timetable
summer = record { midnight = λ d. pos (1_719_788_400 + 86_400 * d - 86_400 * 19_905); lead_minutes = 60 }

abbrev genco_p : Account
genco_p = record { party = codes "GENCO"; side = Production }

abbrev supco_p : Account
supco_p = record { party = codes "SUPCO"; side = Production }

abbrev supco_c : Account
supco_c = record { party = codes "SUPCO"; side = Consumption }

-- the moment at which files come
abbrev loading : ℤ
loading = pos 1_719_700_000

abbrev first_period : SettlementPeriod
first_period = record { date = 19_905; period = 1 }

-- from 2024-01-01 on
abbrev from_new_year : Range
from_new_year = record { from = 19_723; to = 47_481 }

abbrev sale : List ℕ → Account → Account → ℤ → Row
sale reference seller buyer volume =
    row.Contract (record { key = record { reference = reference; at = first_period }; contract = record { counterparties = record { seller = seller; buyer = buyer }; volume = volume } })

abbrev sold : ℤ → ℤ → Accepted
sold moment volume = accepted_at moment (sale (codes "C1") genco_p supco_c volume)

abbrev party : List ℕ → List ℕ → Accepted
party id key = accepted_at loading (row.Party (record { party = id; registration = record { range = from_new_year; key = key } }))

abbrev unit : List ℕ → Account → Accepted
unit id lead = accepted_at loading (row.Unit (record { unit = id; registration = record { lead = lead; interconnector = false; range = from_new_year } }))

abbrev registered : History
registered = party (codes "GENCO") (codes "genco0001") ∷ party (codes "SUPCO") (codes "supco0001") ∷ unit (codes "G1") genco_p ∷ unit (codes "S1") supco_c ∷ []

abbrev volumes : History → List ℤ
volumes history = map (λ e. e.1) (registered_in summer history).contracts

-- a row a second before the deadline is in force; one at the deadline is late; one accepted last counts, though it came earlier
in_time : volumes (registered ++ sold loading (pos 99_000) ∷ sold (pos 1_719_784_799) (pos 98_000) ∷ []) ≡ pos 98_000 ∷ []
in_time = refl

at_the_deadline : volumes (registered ++ sold loading (pos 99_000) ∷ sold (pos 1_719_784_799) (pos 98_000) ∷ sold (pos 1_719_784_800) (pos 97_000) ∷ []) ≡ pos 98_000 ∷ []
at_the_deadline = refl

accepted_last : volumes (registered ++ sold loading (pos 99_000) ∷ sold (pos 1_719_784_799) (pos 98_000) ∷ sold (pos 1_719_784_800) (pos 97_000) ∷ sold loading (pos 96_000) ∷ []) ≡ pos 96_000 ∷ []
accepted_last = refl

abbrev judged : History → Accepted → Option Refusal
judged history a = first_met (refusals_of (whole_standing (registered_in summer history)) (timing_of summer a) a.row)

same_account : judged registered (accepted_at loading (sale (codes "C2") genco_p genco_p (pos 1_000))) ≡ Some refusal.SameAccount
same_account = refl

abbrev reallocated : Account → ℤ → Accepted
reallocated account percent =
    accepted_at loading (row.Reallocation (record { key = record { unit_period = record { unit = codes "G1"; at = first_period }; account = account }; reallocation = record { percent = percent; fixed = pos 0 } }))

-- 60 and 40 percent are in force; the 40 percent can't become more
sixty : judged registered (reallocated supco_p (pos 6_000_000)) ≡ None
sixty = refl

forty : judged (registered ++ reallocated supco_p (pos 6_000_000) ∷ []) (reallocated supco_c (pos 4_000_000)) ≡ None
forty = refl

over_hundred : judged (registered ++ reallocated supco_p (pos 6_000_000) ∷ reallocated supco_c (pos 4_000_000) ∷ []) (reallocated supco_c (pos 4_000_001)) ≡ Some refusal.OverHundred
over_hundred = refl

own_lead : judged registered (reallocated genco_p (pos 1)) ≡ Some refusal.OwnLead
own_lead = refl

-- a late row fixes its reference, and a row in time with another seller and buyer is refused
moved : judged (registered ++ accepted_at (pos 1_719_784_800) (sale (codes "C9") genco_p supco_c (pos 1)) ∷ []) (accepted_at loading (sale (codes "C9") supco_c genco_p (pos 1))) ≡ Some refusal.ReferenceMoved
moved = refl

no_such_period : judged registered (accepted_at loading (row.Price (record { at = record { date = 19_905; period = 49 }; price = pos 0 }))) ≡ Some refusal.NoSuchPeriod
no_such_period = refl

off_range : judged registered (accepted_at loading (row.Meter (record { key = record { unit = codes "G1"; at = record { date = 19_722; period = 1 } }; reading = record { metered = pos 0; tlm = pos 0; balancing = pos 0 } }))) ≡ Some refusal.NotEffective
off_range = refl

shrinks : judged registered (accepted_at loading (row.Party (record { party = codes "GENCO"; registration = record { range = record { from = 19_724; to = 47_481 }; key = codes "genco0001" } }))) ≡ Some refusal.ShrinksRange
shrinks = refl

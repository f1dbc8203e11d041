-- A market in which a unit gets another lead account, computed: what its rows are refused for, and its registrations.
use Rattle.std.proofs.Common.{◌≡◌, ℕ, List, [], ◌∷◌, ◌++◌, refl, Some, None, Bool, true, false, Option}
use Rattle.std.specs.Prelude.{ℤ, pos, codes, ◌+◌, ◌-◌, ◌*◌, map}
use Rattle.hh_names.specs.declared.account.Account.{Account}
use Rattle.hh_names.specs.declared.account.Side.TheVariants.{Production, Consumption}
use Rattle.hh_names.specs.declared.fault.Refusal.{Refusal}
use Rattle.hh_names.specs.declared.fault.Refusal.TheVariants as refusal
use Rattle.hh_rows.specs.declared.rows.Row.{Row}
use Rattle.hh_rows.specs.declared.rows.Row.TheVariants as row
use Rattle.hh_rows.specs.declared.settlement_period.SettlementPeriod.{SettlementPeriod}
use Rattle.hh_registrations.specs.Registrations.{Lead, RegistrationsView, registered_lead_on}
use Rattle.hh_rules.specs.History.{History}
use Rattle.hh_rules.specs.Lateness.{Timetable, Accepted, accepted_at}
use Rattle.hh_successions.specs.RegistrationHistory.{refusal_by, registrations_in}
use Rattle.hh_successions.specs.RowRules.{office_rule}

-- 2024-07-01 is day 19905 and begins at 1719788400; each day here has 48 periods
abbrev summer : Timetable
summer = record { midnight = λ d. pos (1_719_788_400 + 86_400 * d - 86_400 * 19_905); lead_minutes = 60 }

abbrev loading : ℤ
loading = pos 1_719_700_000

abbrev account_p : List ℕ → Account
account_p id = record { party = id; side = Production }

abbrev account_c : List ℕ → Account
account_c id = record { party = id; side = Consumption }

abbrev genco_p : Account
genco_p = account_p (codes "GENCO")

abbrev supco_c : Account
supco_c = account_c (codes "SUPCO")

abbrev newco_c : Account
newco_c = account_c (codes "NEWCO")

-- days: 2024-01-01, 2024-07-01, 2024-12-31 and 2099-12-31
abbrev new_year : ℕ
new_year = 19_723

abbrev july : ℕ
july = 19_905

abbrev year_end : ℕ
year_end = 20_088

abbrev ever : ℕ
ever = 47_481

abbrev came : Row → Accepted
came r = accepted_at loading r

abbrev party : List ℕ → List ℕ → Accepted
party id key = came (row.Party (record { party = id; registration = record { range = record { from = new_year; to = ever }; key = key } }))

abbrev unit : List ℕ → Account → Bool → ℕ → ℕ → Accepted
unit id lead mark from to =
    came (row.Unit (record { unit = id; registration = record { lead = lead; interconnector = mark; range = record { from = from; to = to } } }))

abbrev first_period : SettlementPeriod
first_period = record { date = july; period = 1 }

abbrev before : History
before = party (codes "GENCO") (codes "genco0001") ∷ party (codes "SUPCO") (codes "supco0001")
    ∷ unit (codes "G1") genco_p false new_year ever ∷ unit (codes "S1") supco_c false new_year ever ∷ []

abbrev with_newco : History
with_newco = before ++ party (codes "NEWCO") (codes "newco0001") ∷ []

abbrev refused : History → Accepted → Option Refusal
refused history a = refusal_by office_rule summer history a

-- the row ends before the unit does
ends_early : refused with_newco (unit (codes "S1") newco_c false july year_end) ≡ Some refusal.ShrinksRange
ends_early = refl

-- a succession doesn't begin later than the last registration; the mark differs
begins_early : refused with_newco (unit (codes "S1") newco_c false new_year ever) ≡ Some refusal.UnitMoved
begins_early = refl

other_mark : refused with_newco (unit (codes "S1") newco_c true july ever) ≡ Some refusal.UnitMoved
other_mark = refl

-- a tenth of the unit goes to the new lead account in the first period
abbrev tenth : Accepted
tenth = came (row.Reallocation (record { key = record { unit_period = record { unit = codes "S1"; at = first_period }; account = newco_c }; reallocation = record { percent = pos 1_000_000; fixed = pos 0 } }))

tenth_accepted : refused with_newco tenth ≡ None
tenth_accepted = refl

lead_is_subsidiary : refused (with_newco ++ tenth ∷ []) (unit (codes "S1") newco_c false july ever) ≡ Some refusal.LeadIsSubsidiary
lead_is_subsidiary = refl

abbrev succession : Accepted
succession = unit (codes "S1") newco_c false july ever

succession_accepted : refused with_newco succession ≡ None
succession_accepted = refl

abbrev after : History
after = with_newco ++ succession ∷ []

abbrev registered_after : RegistrationsView
registered_after = registrations_in after

-- the registrations then: the first of S1 ends on the day before
abbrev lead : List ℕ → ℕ → ℕ → Account → Lead
lead id from to account = (record { unit = id; from = from }, record { lead = account; to = to })

registrations : registered_after.leads
    ≡ lead (codes "G1") new_year ever genco_p ∷ lead (codes "S1") new_year (july - 1) supco_c ∷ lead (codes "S1") july ever newco_c ∷ []
registrations = refl

-- `units` has the latest lead account and keeps the first day
unit_row : map (λ u. u.1) registered_after.units
    ≡ record { lead = genco_p; interconnector = false; range = record { from = new_year; to = ever } }
    ∷ record { lead = newco_c; interconnector = false; range = record { from = new_year; to = ever } } ∷ []
unit_row = refl

abbrev lead_of_s1 : ℕ → Option Account
lead_of_s1 date = registered_lead_on registered_after (codes "S1") date

day_before : lead_of_s1 (july - 1) ≡ Some supco_c
day_before = refl

that_day : lead_of_s1 july ≡ Some newco_c
that_day = refl

-- the unit is led on each of its dates, and on no other
before_all : lead_of_s1 (new_year - 1) ≡ None
before_all = refl

-- the old lead account can't come back from the first day on, and a widening of the last registration keeps its first day
back_again : refused after (unit (codes "S1") supco_c false new_year ever) ≡ Some refusal.UnitMoved
back_again = refl

widening_earlier : refused after (unit (codes "S1") newco_c false new_year ever) ≡ Some refusal.UnitMoved
widening_earlier = refl

widening_later : refused after (unit (codes "S1") newco_c false (july + 1) ever) ≡ Some refusal.ShrinksRange
widening_later = refl

widening : refused after (unit (codes "S1") newco_c false july ever) ≡ None
widening = refl

-- a reallocation to the lead account of its date
own_lead : refused after tenth ≡ Some refusal.OwnLead
own_lead = refl

-- What a party sees of an office, and that it sees no more.
use Rattle.std.specs.Prelude.{◌≡◌, ℕ, ℤ, List, Bool, true, false, not, Option, Some, IsTrue, MatchBool, option_map}
use Rattle.std.specs.FinMap.{find}
use Rattle.std.specs.Str.{bytes_eq}
use Rattle.hh_time.specs.Days.{Midnights}
use Rattle.hh_names.specs.declared.account.Account.{Account}
use Rattle.hh_names.specs.declared.fault.Refusal.TheVariants.{Forbidden}
use Rattle.hh_names.specs.Accounts.{bytes_cmp}
use Rattle.hh_names.specs.Faults.{plain_fault}
use Rattle.hh_runs.specs.declared.run_key.RunKey.{RunKey}
use Rattle.hh_requests.specs.declared.reply.Reply.{Reply}
use Rattle.hh_requests.specs.declared.reply.Reply.TheVariants as reply
use Rattle.hh_requests.specs.declared.request.Action.{Action}
use Rattle.hh_requests.specs.declared.request.Action.TheVariants as ask
use Rattle.hh_requests.specs.declared.request.Request.{Request}
use Rattle.hh_states.specs.Content.{tables_of}
use Rattle.hh_states.specs.Reads.{contracts_of, postings_in, results_in}
use Rattle.hh_states.specs.States.{State}
use Rattle.hh_states.specs.Steps.{IsReached, kinds_on, registered_at}
use Rattle.hh_office.specs.Enquiries.{rows_of_account}
use Rattle.hh_office.specs.Machine.{answer, is_holder, is_others}
use Rattle.hh_office.specs.Promises.{Represents, is_given_up}
use Rattle.hh_office.specs.Views.{OfficeView, midnight_of}

-- the key with which a party is registered, if it is
abbrev pub key_in : Midnights → State → List ℕ → Option (List ℕ)
key_in midnight s party = option_map (λ r. r.key) (find bytes_cmp party (registered_at midnight s).parties)

-- Two states look alike to a party: it is registered with the same key, the same runs exist, and its accounts have the same rows in every
-- run, the same postings, and the same contracts in force.
pub record LooksAlike (midnight : Midnights) (party : List ℕ) (s t : State) : Type 0 where
  pub key : key_in midnight s party ≡ key_in midnight t party
  pub runs : (date : ℕ) → kinds_on s date ≡ kinds_on t date
  pub rows : (a : Account) (run : RunKey) → a.party ≡ party
      → rows_of_account a (results_in (tables_of midnight s) run) ≡ rows_of_account a (results_in (tables_of midnight t) run)
  pub postings : (a : Account) → a.party ≡ party
      → postings_in (tables_of midnight s) a ≡ postings_in (tables_of midnight t) a
  pub contracts : (a : Account) (date : ℕ) → a.party ≡ party
      → contracts_of a date (registered_at midnight s) ≡ contracts_of a date (registered_at midnight t)

-- whether an enquiry is a party's own: it asks for the runs of a date, or about an account of the party
abbrev pub is_own : List ℕ → Action → Bool
is_own party (ask.Account a date) = bytes_eq a.party party
is_own party (ask.Balance a) = bytes_eq a.party party
is_own party (ask.Contracts a date) = bytes_eq a.party party
is_own party (ask.Runs date) = true
is_own party _ = false

-- the office answers a party's own enquiry as the machine does in each state that looks to the party like one that the office represents
abbrev pub ShowsByView : OfficeView → Request → Reply → Type 0
ShowsByView office request given =
    (s t : State) (moment : ℤ) (party : List ℕ) → Represents office s → IsReached (midnight_of office) t
    → LooksAlike (midnight_of office) party s t → key_in (midnight_of office) s party ≡ Some request.key
    → IsTrue (is_own party request.action)
    → MatchBool (is_given_up given) (Unit {0}) (given ≡ answer (midnight_of office) t moment request)

-- whether an action is only for the operator, or is about an account whose party is registered with another key or not at all
abbrev pub is_foreign : Midnights → State → List ℕ → Action → Bool
is_foreign midnight s key (ask.Load upload) = true
is_foreign midnight s key (ask.Run run) = true
is_foreign midnight s key (ask.Account a date) = not (is_holder midnight s a key)
is_foreign midnight s key (ask.Balance a) = not (is_holder midnight s a key)
is_foreign midnight s key (ask.Contracts a date) = not (is_holder midnight s a key)
is_foreign midnight s key (ask.Runs date) = false

-- with the key of a registered party, or any key that is not the operator's, sending a file, ordering a run and each foreign enquiry are
-- forbidden
abbrev pub ForbidsOthers : OfficeView → Request → Reply → Type 0
ForbidsOthers office request given =
    (s : State) → Represents office s → IsTrue (is_others (midnight_of office) s request.key)
    → IsTrue (is_foreign (midnight_of office) s request.key request.action)
    → MatchBool (is_given_up given) (Unit {0}) (given ≡ reply.Refused (plain_fault Forbidden))

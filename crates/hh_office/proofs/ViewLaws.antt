-- What a party sees of an office, and that it sees no more.
use Rattle.std.proofs.Common.{◌≡◌, ◌≢◌, ℕ, ℤ, List, [], ◌∷◌, refl, sym, ap, ◌∙◌, Bool, true, false, cond, Option, Some, None, IsTrue}
use Rattle.std.specs.Prelude.{◌==◌, IfSome, MatchBool, ◌||◌, not, option_map}
use Rattle.std.specs.FinMap.{find}
use Rattle.std.specs.List.{AllByRecursion, list_any}
use Rattle.std.specs.Ordering.{eq_by_cmp}
use Rattle.std.specs.Str.{bytes_eq}
use Rattle.std.proofs.lemmas.Option.{none-some}
use Rattle.std.proofs.lemmas.Slice.Eq.{bytes_eq-Decides}
use Rattle.hh_num.specs.Totals.{total}
use Rattle.hh_tables.proofs.TableLaws.{false_is_not_true}
use Rattle.hh_time.specs.Days.{Midnights}
use Rattle.hh_names.specs.declared.account.Account.{Account}
use Rattle.hh_names.specs.declared.fault.Refusal.TheVariants.{Forbidden, NoRun}
use Rattle.hh_names.specs.Accounts.{bytes_cmp}
use Rattle.hh_names.specs.Faults.{plain_fault}
use Rattle.hh_rows.specs.declared.rows.PartyRegistration.{PartyRegistration}
use Rattle.hh_runs.specs.declared.run_kind.RunKind.{RunKind}
use Rattle.hh_runs.specs.declared.run_key.RunKey.{RunKey}
use Rattle.hh_requests.specs.declared.reply.Reply.{Reply}
use Rattle.hh_requests.specs.declared.reply.Reply.TheVariants as reply
use Rattle.hh_requests.specs.declared.request.Action.{Action}
use Rattle.hh_requests.specs.declared.request.Action.TheVariants as ask
use Rattle.hh_requests.specs.declared.request.Request.{Request}
use Rattle.hh_states.specs.Content.{tables_of}
use Rattle.hh_states.specs.Ranges.{KeysNeverMeet}
use Rattle.hh_states.specs.Reads.{results_in}
use Rattle.hh_states.specs.RunReads.{HoldsPostings, HoldsResults, rows_in_run}
use Rattle.hh_states.specs.Runs.{Run, last_of, latest_run, runs_of_date}
use Rattle.hh_states.specs.States.{State}
use Rattle.hh_states.specs.Steps.{IsReached, kinds_on, registered_at}
use Rattle.hh_office.specs.Enquiries.{account_reply, balance_reply, reply_by_rows, reply_by_run, rows_of_account}
use Rattle.hh_office.specs.Machine.{act, answer, is_holder, is_key_of, is_operator, is_others, is_party_key, may}
use Rattle.hh_office.specs.PartyViews.{ForbidsOthers, LooksAlike, ShowsByView, is_foreign, is_own, key_in}
use Rattle.hh_office.specs.Promises.{HandleStep, is_given_up}
use Rattle.hh_office.specs.Transitions.{refused_for}
use Rattle.hh_office.specs.Views.{OfficeView, midnight_of}
use Rattle.hh_office.proofs.EnquiryLaws.{all_plain, key_by, last-map, latest_holds, option_map-twice}

-- what a party asks with its key is answered from what it sees: alike in any two states that look alike to it
abbrev AnswersByView : Midnights → Type 0
AnswersByView midnight =
    (s t : State) (earlier later : ℤ) (party : List ℕ) (request : Request) → IsReached midnight s → IsReached midnight t
    → LooksAlike midnight party s t → key_in midnight s party ≡ Some request.key → IsTrue (is_own party request.action)
    → answer midnight s earlier request ≡ answer midnight t later request

-- if the second of two holds, one of them holds
or_second : (a b : Bool) → b ≡ true → (a || b) ≡ true
or_second true b is = refl
or_second false b is = is

-- if neither of two holds, their disjunction doesn't
or_neither : (a b : Bool) → a ≡ false → not b ≡ true → (a || b) ≡ false
or_neither true b is denied = is
or_neither false true is denied = absurd (false_is_not_true denied)
or_neither false false is denied = refl

-- a registration with this key is that of a party which has the key
has_key : (key : List ℕ) (found : Option PartyRegistration) → option_map (λ r. r.key) found ≡ Some key → is_key_of key found ≡ true
has_key key None is = absurd (none-some key is)
has_key key (Some r) is =
    let same : r.key ≡ key = cc is in
    (bytes_eq-Decides r.key key).1 same

-- the key with which a party is registered is known
is_known : (party key : List ℕ) (parties : List (List ℕ × PartyRegistration)) → option_map (λ r. r.key) (find bytes_cmp party parties) ≡ Some key
    → list_any (λ e. bytes_eq e.1.key key) parties ≡ true
is_known party key [] is = absurd (none-some key is)
is_known party key (e ∷ parties) is =
    elim (eq_by_cmp bytes_cmp party e.0) as (λ b. option_map (λ r. r.key) (cond b (Some e.1) (find bytes_cmp party parties)) ≡ Some key
    → (bytes_eq e.1.key key || list_any (λ e. bytes_eq e.1.key key) parties) ≡ true) [
      | true ↦ λ here. ap (λ b. b || list_any (λ e. bytes_eq e.1.key key) parties) (has_key key (Some e.1) here)
      | false ↦ λ later. or_second (bytes_eq e.1.key key) (list_any (λ e. bytes_eq e.1.key key) parties) (is_known party key parties later)
    ] is

module _ (midnight : Midnights) where
  -- a party with its key holds its accounts
  holds_own : (s : State) (party key : List ℕ) (a : Account) → key_in midnight s party ≡ Some key → a.party ≡ party → is_holder midnight s a key ≡ true
  holds_own s party key a is own = has_key key (find bytes_cmp a.party (registered_at midnight s).parties) (ap (key_in midnight s) own ∙ is)

  -- so it may ask for what they have
  may_own : (s : State) (party key : List ℕ) (a : Account) → key_in midnight s party ≡ Some key → bytes_eq a.party party ≡ true
      → (is_operator midnight s key || is_holder midnight s a key) ≡ true
  may_own s party key a is own =
      or_second (is_operator midnight s key) (is_holder midnight s a key) (holds_own s party key a is ((bytes_eq-Decides a.party party).0 own))

  -- a party may make enquiries of its own
  may_ask : (s : State) (party key : List ℕ) (action : Action) → key_in midnight s party ≡ Some key → is_own party action ≡ true → may midnight s key action ≡ true
  may_ask s party key (ask.Load upload) is own = absurd (false_is_not_true own)
  may_ask s party key (ask.Run run) is own = absurd (false_is_not_true own)
  may_ask s party key (ask.Account a date) is own = may_own s party key a is own
  may_ask s party key (ask.Balance a) is own = may_own s party key a is own
  may_ask s party key (ask.Contracts a date) is own = may_own s party key a is own
  may_ask s party key (ask.Runs date) is own =
      or_second (is_operator midnight s key) (is_party_key midnight s key) (is_known party key (registered_at midnight s).parties is)

  -- the key of the latest run of a date, given the kinds of the date's runs
  abbrev latest_of_kinds : ℕ → List RunKind → Option RunKey
  latest_of_kinds date kinds = option_map (λ k. record { date = date; kind = k }) (last_of kinds)

  -- the latest run of a date has that key
  latest_by_kinds : (s : State) (date : ℕ) → option_map (λ r. r.key) (latest_run date s.runs) ≡ latest_of_kinds date (kinds_on s date)
  latest_by_kinds s date =
      let keyed : RunKind → RunKey = λ k. record { date = date; kind = k } in
      let kind_of : Run → RunKind = λ r. r.key.kind in
      sym (key_by date (latest_run date s.runs) (latest_holds (λ r. Unit {0}) date s.runs (all_plain s.runs)))
      ∙ sym (option_map-twice keyed kind_of (latest_run date s.runs))
      ∙ ap (option_map keyed) (sym (last-map kind_of (runs_of_date date s.runs)))

  -- the reply about an account, given the rows that the tables contain under a key
  abbrev reply_by_key : State → Account → Option RunKey → Reply
  reply_by_key s a None = reply.Refused (plain_fault NoRun)
  reply_by_key s a (Some key) = reply_by_rows a key (rows_of_account a (results_in (tables_of midnight s) key))

  -- the reply by a run whose rows the tables contain
  reply_held : (s : State) (a : Account) (date : ℕ) (latest : Option Run)
      → IfSome latest (λ r. (results_in (tables_of midnight s) r.key ≡ rows_in_run midnight s r) × ((r.key.date == date) ≡ true))
      → reply_by_run midnight s a latest ≡ reply_by_key s a (option_map (λ r. r.key) latest)
  reply_held s a date None held = refl
  reply_held s a date (Some r) held = ap (λ rows. reply_by_rows a r.key (rows_of_account a rows)) (sym held.0)

  -- the reply about an account, given the kinds of the date's runs
  account_by_kinds : HoldsResults → (s : State) (a : Account) (date : ℕ) → IsReached midnight s
      → account_reply midnight s a date ≡ reply_by_key s a (latest_of_kinds date (kinds_on s date))
  account_by_kinds results s a date reached =
      reply_held s a date (latest_run date s.runs) (latest_holds _ date s.runs (results midnight s reached))
      ∙ ap (reply_by_key s a) (latest_by_kinds s date)

  -- Two reached states look alike to a party.
  module _ (results : HoldsResults) (postings : HoldsPostings) (s t : State) (party : List ℕ) (reached : IsReached midnight s) (other : IsReached midnight t)
      (alike : LooksAlike midnight party s t) where
    -- the tables of both contain the same under each key, for an account of the party
    same_by_key : (a : Account) (latest : Option RunKey) → a.party ≡ party → reply_by_key s a latest ≡ reply_by_key t a latest
    same_by_key a None own = refl
    same_by_key a (Some key) own = ap (reply_by_rows a key) (alike.rows a key own)

    -- so the reply about the account is the same
    same_account : (a : Account) (date : ℕ) → a.party ≡ party → account_reply midnight s a date ≡ account_reply midnight t a date
    same_account a date own =
        account_by_kinds results s a date reached
        ∙ same_by_key a (latest_of_kinds date (kinds_on s date)) own
        ∙ ap (λ kinds. reply_by_key t a (latest_of_kinds date kinds)) (alike.runs date)
        ∙ sym (account_by_kinds results t a date other)

    -- and so is the reply about its balance
    same_balance : (a : Account) → a.party ≡ party → balance_reply midnight s a ≡ balance_reply midnight t a
    same_balance a own =
        ap (reply.Balance a) (sym (postings midnight s a reached) ∙ ap (total (λ e. e.1)) (alike.postings a own) ∙ postings midnight t a other)

    -- if the party asks about its own, it gets the same reply in both
    same_reply : (earlier later : ℤ) (action : Action) → is_own party action ≡ true → (act midnight s earlier action).reply ≡ (act midnight t later action).reply
    same_reply earlier later (ask.Load upload) own = absurd (false_is_not_true own)
    same_reply earlier later (ask.Run run) own = absurd (false_is_not_true own)
    same_reply earlier later (ask.Account a date) own = same_account a date ((bytes_eq-Decides a.party party).0 own)
    same_reply earlier later (ask.Balance a) own = same_balance a ((bytes_eq-Decides a.party party).0 own)
    same_reply earlier later (ask.Contracts a date) own =
        ap (λ contracts. reply.Contracts (record { account = a; date = date; contracts = contracts }))
        (alike.contracts a date ((bytes_eq-Decides a.party party).0 own))
    same_reply earlier later (ask.Runs date) own = ap (λ kinds. reply.Runs (record { date = date; kinds = kinds })) (alike.runs date)

  -- a request that is allowed is answered with what it asks
  allowed : (s : State) (moment : ℤ) (request : Request) → may midnight s request.key request.action ≡ true
      → answer midnight s moment request ≡ (act midnight s moment request.action).reply
  allowed s moment request is = ap (λ b. (cond b (act midnight s moment request.action) (refused_for s Forbidden)).reply) is

  -- a request that is not allowed is forbidden
  not_allowed : (s : State) (moment : ℤ) (request : Request) → may midnight s request.key request.action ≡ false
      → answer midnight s moment request ≡ reply.Refused (plain_fault Forbidden)
  not_allowed s moment request is = ap (λ b. (cond b (act midnight s moment request.action) (refused_for s Forbidden)).reply) is

  -- with a key that is not the operator's, a foreign enquiry is not allowed
  foreign_not : (s : State) (key : List ℕ) (action : Action) → is_operator midnight s key ≡ false → is_foreign midnight s key action ≡ true
      → may midnight s key action ≡ false
  foreign_not s key (ask.Load upload) other foreign = other
  foreign_not s key (ask.Run run) other foreign = other
  foreign_not s key (ask.Account a date) other foreign = or_neither (is_operator midnight s key) (is_holder midnight s a key) other foreign
  foreign_not s key (ask.Balance a) other foreign = or_neither (is_operator midnight s key) (is_holder midnight s a key) other foreign
  foreign_not s key (ask.Contracts a date) other foreign = or_neither (is_operator midnight s key) (is_holder midnight s a key) other foreign
  foreign_not s key (ask.Runs date) other foreign = absurd (false_is_not_true foreign)

-- what a party asks with its key is answered from what it sees
pub answers_by_view : HoldsResults → HoldsPostings → (midnight : Midnights) → AnswersByView midnight
answers_by_view results postings midnight s t earlier later party request reached other alike is own =
    allowed midnight s earlier request (may_ask midnight s party request.key request.action is own)
    ∙ same_reply midnight results postings s t party reached other alike earlier later request.action own
    ∙ sym (allowed midnight t later request (may_ask midnight t party request.key request.action (sym alike.key ∙ is) own))

-- what is given unless the request was given up, if the machine's reply is as expected
given_by : (b : Bool) (A Q : Type 0) (given reply expected : Reply) → reply ≡ expected → MatchBool b A ((given ≡ reply) × Q)
    → MatchBool b (Unit {0}) (given ≡ expected)
given_by true A Q given reply expected is comes = tt
given_by false A Q given reply expected is comes = comes.0 ∙ is

-- if an office steps as the machine, it shows a party no more than what the party sees
pub shows_by_view : HoldsResults → HoldsPostings → (old new : OfficeView) (moment : ℤ) (request : Request) (given : Reply)
    → HandleStep old new moment request given → ShowsByView old request given
shows_by_view results postings old new moment request given steps s t later party stands other alike is own =
    given_by (is_given_up given) _ _ given (answer (midnight_of old) s moment request) (answer (midnight_of old) t later request)
    (answers_by_view results postings (midnight_of old) s t moment later party request stands.0 other alike is own) (steps s stands)

-- one of two holds and the first does not, so the second does
or_second_of : (a b : Bool) → (not a || b) ≡ true → a ≡ true → b ≡ true
or_second_of true b either is = either
or_second_of false b either is = absurd (false_is_not_true is)

-- a key that some party of a list has
known_has : (operator key : List ℕ) (parties : List (List ℕ × PartyRegistration)) → AllByRecursion (λ p. p.1.key ≢ operator) parties
    → list_any (λ e. bytes_eq e.1.key key) parties ≡ true → operator ≢ key
known_has operator key [] apart known = absurd (false_is_not_true known)
known_has operator key (e ∷ parties) apart known =
    elim (bytes_eq e.1.key key) as (λ b. bytes_eq e.1.key key ≡ b → (b || list_any (λ e. bytes_eq e.1.key key) parties) ≡ true → operator ≢ key) [
      | true ↦ λ is _ same. apart.0 ((bytes_eq-Decides e.1.key key).0 is ∙ sym same)
      | false ↦ λ is later. known_has operator key parties apart.1 later
    ] refl known

-- in a reached state a key of others is not the operator's
others_not : KeysNeverMeet → (midnight : Midnights) (s : State) (key : List ℕ) → IsReached midnight s → is_others midnight s key ≡ true → is_operator midnight s key ≡ false
others_not apart midnight s key reached others =
    elim (is_operator midnight s key) as (λ b. is_operator midnight s key ≡ b → b ≡ false) [
      | false ↦ λ _. refl
      | true ↦ λ is. absurd (known_has s.settings.operator_key key (registered_at midnight s).parties (apart midnight s reached)
          (or_second_of (is_operator midnight s key) (is_party_key midnight s key) others is) ((bytes_eq-Decides s.settings.operator_key key).0 is))
    ] refl

-- if an office steps as the machine, it forbids others what is not theirs
pub forbids_others : KeysNeverMeet → (old new : OfficeView) (moment : ℤ) (request : Request) (given : Reply)
    → HandleStep old new moment request given → ForbidsOthers old request given
forbids_others apart old new moment request given steps s stands others foreign =
    given_by (is_given_up given) _ _ given (answer (midnight_of old) s moment request) (reply.Refused (plain_fault Forbidden))
    (not_allowed (midnight_of old) s moment request (foreign_not (midnight_of old) s request.key request.action (others_not apart (midnight_of old) s request.key stands.0 others) foreign)) (steps s stands)

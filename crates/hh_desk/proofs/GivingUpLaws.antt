-- When a load or a run is given up for the store, given the store's count.
use Rattle.std.proofs.Common.{◌≡◌, ℕ, ◌<◌, ◌≤◌, refl, Bool, true, false, arith, ltb, Option, Some, None, inl, inr}
use Rattle.std.specs.Prelude.{MatchBool, is_none, ◌&&◌}
use Rattle.std.proofs.lemmas.Bool.{and_parts, ltb-false, ltb-true}
use Rattle.hh_tables.proofs.TableLaws.{false_is_not_true}
use Rattle.hh_devices.specs.Devices.{most_failures}
use Rattle.hh_time.specs.Days.{Midnights}
use Rattle.hh_names.specs.declared.fault.Fault.{Fault}
use Rattle.hh_names.specs.declared.fault.Refusal.{Refusal}
use Rattle.hh_names.specs.declared.fault.Refusal.TheVariants as refusal
use Rattle.hh_names.specs.Faults.{plain_fault}
use Rattle.hh_requests.specs.declared.reply.Reply.{Reply}
use Rattle.hh_requests.specs.declared.reply.Reply.TheVariants as reply
use Rattle.hh_states.specs.States.{State}
use Rattle.hh_http_serve.specs.Promises.{gives_up, is_failure, is_given_up, is_plain}
use Rattle.hh_http_serve.specs.Refusals.{CountsMore, CountsReply, CountsStoreFault, is_of_store}
use Rattle.hh_http_serve.specs.StoreFaults.{CountsOneMore}
use Rattle.hh_host.specs.Views.{HostView}
use Rattle.hh_script.specs.Steps.{LoadStep, RunStep}
use Rattle.hh_desk.specs.declared.told.Told.{Told}
use Rattle.hh_desk.specs.declared.told.Told.TheVariants.{Replied, Unreadable}
use Rattle.hh_desk.specs.Doing.{LoadDoes, RunDoes}
use Rattle.hh_desk.specs.GivingUp.{GivesUpWhere, IsGivenUpWhere}

-- ---- what is counted

-- A store had counted `old` refusals, and counts `new` now.
module _ (old new : ℕ) where
  more_by_one : CountsOneMore old new → CountsMore old new
  more_by_one counts below = omega (arith, counts.1 below)

  up_by : (b : Bool) → MatchBool b (CountsOneMore old new) (new ≡ old) → old ≤ new
  up_by true counts = counts.0
  up_by false same = omega (arith, same)

  -- the count does not fall when a fault is answered
  pub fault_up : (fault : Fault) → CountsStoreFault fault old new → old ≤ new
  fault_up fault counts = up_by (is_of_store fault.refusal) counts

  -- nor when a reply is given
  pub reply_up : (given : Reply) → CountsReply given old new → old ≤ new
  reply_up (reply.Refused fault) counts = fault_up fault counts
  reply_up (reply.Loaded x) same = omega (arith, same)
  reply_up (reply.Ran x y) same = omega (arith, same)
  reply_up (reply.Account x) same = omega (arith, same)
  reply_up (reply.Balance x y) same = omega (arith, same)
  reply_up (reply.Contracts x) same = omega (arith, same)
  reply_up (reply.Runs x) same = omega (arith, same)

  -- a refusal that gives up is for memory, or it is that of a store which counted it
  pub fault_where : (fault : Fault) → gives_up fault ≡ true → CountsStoreFault fault old new → GivesUpWhere (CountsMore old new) fault
  fault_where fault up counts =
      let both = and_parts (is_failure fault.refusal) (is_plain fault) up in
      by_refusal fault.refusal both.0 counts (plain_by both.1)
    where
      none_by : {X : Type 0} (o : Option X) → is_none o ≡ true → o ≡ None
      none_by None is = refl
      none_by (Some x) is = absurd (false_is_not_true is)

      plain_by : is_plain fault ≡ true → fault ≡ plain_fault fault.refusal
      plain_by is =
          let four = and_parts (is_none fault.row && is_none fault.column && is_none fault.unit) (is_none fault.period) is in
          let three = and_parts (is_none fault.row && is_none fault.column) (is_none fault.unit) four.0 in
          let two = and_parts (is_none fault.row) (is_none fault.column) three.0 in
          λ i. record {
            refusal = fault.refusal;
            row = none_by fault.row two.0 i;
            column = none_by fault.column two.1 i;
            unit = none_by fault.unit three.1 i;
            period = none_by fault.period four.1 i;
          }

      by_refusal : (r : Refusal) → is_failure r ≡ true → MatchBool (is_of_store r) (CountsOneMore old new) (new ≡ old) → fault ≡ plain_fault r
          → GivesUpWhere (CountsMore old new) fault
      by_refusal refusal.Memory failure counts is = inl is
      by_refusal refusal.Store failure counts is = inr (is, more_by_one counts)
      by_refusal r failure counts is = absurd (false_is_not_true failure)

  pub reply_where : (given : Reply) → is_given_up given ≡ true → CountsReply given old new → IsGivenUpWhere (CountsMore old new) given
  reply_where (reply.Refused fault) up counts = fault_where fault up counts
  reply_where (reply.Loaded x) up same = absurd (false_is_not_true up)
  reply_where (reply.Ran x y) up same = absurd (false_is_not_true up)
  reply_where (reply.Account x) up same = absurd (false_is_not_true up)
  reply_where (reply.Balance x y) up same = absurd (false_is_not_true up)
  reply_where (reply.Contracts x) up same = absurd (false_is_not_true up)
  reply_where (reply.Runs x) up same = absurd (false_is_not_true up)

-- A count does not fall between three moments.
module _ (first mid last : ℕ) (up : first ≤ mid) (further : mid ≤ last) where
  -- it rose overall if it rose at first
  pub more_at_first : CountsMore first mid → CountsMore first last
  more_at_first more below = omega (arith, more below, further)

  -- it rose overall if it rose later
  pub more_later : CountsMore mid last → CountsMore first last
  more_later more below = go (ltb mid most_failures) refl
    where
      go : (b : Bool) → ltb mid most_failures ≡ b → first < last
      go true is = let rose : mid < last = more (ltb-true mid most_failures is) in omega (arith, up, rose)
      go false is = let greatest : most_failures ≤ mid = ltb-false mid most_failures is in omega (arith, below, greatest, further)

-- ---- from one condition on failures of the store to a weaker one

module _ (fails others : Type 0) (implies : fails → others) where
  pub fault_then : (fault : Fault) → GivesUpWhere fails fault → GivesUpWhere others fault
  fault_then fault (inl memory) = inl memory
  fault_then fault (inr (store, failed)) = inr (store, implies failed)

  reply_then : (given : Reply) → IsGivenUpWhere fails given → IsGivenUpWhere others given
  reply_then (reply.Refused fault) up = fault_then fault up
  reply_then (reply.Loaded x) none = absurd none
  reply_then (reply.Ran x y) none = absurd none
  reply_then (reply.Account x) none = absurd none
  reply_then (reply.Balance x y) none = absurd none
  reply_then (reply.Contracts x) none = absurd none
  reply_then (reply.Runs x) none = absurd none

  module _ (midnight : Midnights) (s : State) where
    pub load_then : (host : HostView) (load : LoadStep) (told : Told) (t : State) → LoadDoes host fails midnight s load told t
        → LoadDoes host others midnight s load told t
    load_then host load Unreadable t does = does
    load_then host load (Replied given) t (inl answered) = inl answered
    load_then host load (Replied given) t (inr (up, same)) = inr (reply_then given up, same)

    pub run_then : (run : RunStep) (told : Told) (t : State) → RunDoes fails midnight s run told t → RunDoes others midnight s run told t
    run_then run Unreadable t none = absurd none
    run_then run (Replied given) t (inl answered) = inl answered
    run_then run (Replied given) t (inr (up, same)) = inr (reply_then given up, same)

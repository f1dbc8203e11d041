-- What comes of serving connections, given what is known about each.
use Rattle.std.proofs.Common.{◌≡◌, ℕ, ℤ, ◌+◌, ◌≤◌, List, [], ◌∷◌, ◌++◌, refl, ap, subst, sym, ◌∙◌, arith, Bool, true, false, cond, Option, Some, Result, Ok, Err, inl, inr}
use Rattle.std.proofs.lemmas.List.{length-append}
use Rattle.jiff.specs.Words.{plain_zone}
use Rattle.hh_devices.specs.DeviceChanges.{DeviceChange}
use Rattle.hh_time.specs.Zone.{midnight_in}
use Rattle.hh_requests.specs.declared.request.Request.{Request}
use Rattle.hh_states.specs.States.{State}
use Rattle.hh_http_serve.specs.Machine.{next}
use Rattle.hh_http_serve.specs.Promises.{Represents, is_given_up}
use Rattle.hh_http_serve.specs.Refusals.{CountsMore, RepresentsSome}
use Rattle.hh_http_serve.specs.Views.{OfficeView, midnight_of}
use Rattle.hh_http_serve.specs.declared.serve.ServeFault.{ServeFault}
use Rattle.hh_http_serve.specs.declared.serve.ServeFault.TheVariants.{Memory, Read, Write}
use Rattle.hh_http_serve.specs.declared.serve.Served.{Served}
use Rattle.hh_http_serve.specs.declared.serve.Served.TheVariants as outcome
use Rattle.hh_http_serve.specs.Serves.{Answer, CountsReading, CountsWriting, IsAnswer, IsReadOf, Serves, RepresentsAfterOne}
use Rattle.hh_sockets.specs.Arrivals.{Arrival, Exchange}
use Rattle.hh_host.specs.Clocks.{ClockReading}
use Rattle.hh_http_serve.specs.incoming.Incoming.TheVariants.{Asked}
use Rattle.hh_desk.specs.steps.Serving.{ServesNext}
use Rattle.hh_desk.specs.Serving.{AreServed, LeadsTo, ServesAll, ServesEach}
use Rattle.hh_desk.proofs.GivingUpLaws.{more_at_first, more_later}
use Rattle.hh_desk.proofs.ServedLaws.{served_more, served_then}

-- ---- one connection

-- `source` is what a connection brought. `old` is the office before it, and `new` after it.
module _ (source : Option (List ℕ)) (old new : OfficeView) (counted counts : ℕ) (moment : ℤ) (s : State) (stood : Represents old s) where
  stays : new ≡ old → (t : State) × LeadsTo (midnight_of old) moment source s t × Represents new t
  stays same = (s, inl refl, subst (λ o. Represents o s) (sym same) stood)

  given : (request : Request) → IsReadOf source (Ok (Asked request)) → (b : Bool) → Represents new (cond b s (next (midnight_of old) s moment request))
      → (t : State) × LeadsTo (midnight_of old) moment source s t × Represents new t
  given request read true stands = (s, inl refl, stands)
  given request read false stands = (next (midnight_of old) s moment request, inr (request, read, refl), stands)

  answered : (answer : Answer) → IsAnswer source old new counted counts moment answer → (t : State) × LeadsTo (midnight_of old) moment source s t × Represents new t
  answered (Ok reply) (request, read, handles) = given request read (is_given_up reply) (handles.represents s stood)
  answered (Err refused) (read, same) = stays same

  -- the state that the connection leads to
  pub led_to : (device : DeviceChange) (served : Result Served ServeFault) → Serves source old new counted counts moment device served
      → (t : State) × LeadsTo (midnight_of old) moment source s t × Represents new t
  led_to device (Ok outcome.Closed) (read, same, kept) = stays same
  led_to device (Ok outcome.Replied) (given, is, went) = answered (Ok given) is
  led_to device (Ok outcome.Refused) (refused, text, is, tells, went) = answered (Err refused) is
  led_to device (Err Read) (same, kept) = stays same
  led_to device (Err Write) (answer, text, is, tells, went) = answered answer is
  led_to device (Err Memory) (given, is, others, kept) = answered (Ok given) is

-- a connection that was served once
pub one_served : (old new : OfficeView) (counted counts : ℕ) (moment : ℤ) (e : Exchange) (served : Result Served ServeFault)
    → Serves e.source.old old new counted counts moment e.sink served → RepresentsAfterOne old new moment
    → CountsReading served e.source.old_failures e.source.new_failures → CountsWriting e.sink served
    → ServesAll (CountsMore counted counts) old new (Some e ∷ []) (Some moment ∷ [])
one_served old new counted counts moment e served serves after read written s stood =
    let (t, leads, stands) = led_to e.source.old old new counted counts moment s stood e.sink served serves in (
      t,
      (
        t,
        record {
          old = old;
          new = new;
          counted = counted;
          counts = counts;
          served = served;
          zone = refl;
          represented = stood;
          represents = stands;
          leads = leads;
          serves = serves;
          read = read;
          written = written;
          refused = λ more. more;
        },
        refl,
      ),
      (stands, (after s stood).0),
    )

-- ---- one after the other

-- an office represents some state after it served what came
pub some_served : (fails : Type 0) (old new : OfficeView) (arrivals : List Arrival) (readings : List ClockReading) → ServesAll fails old new arrivals readings
    → RepresentsSome old → RepresentsSome new
some_served fails old new arrivals readings served (s, stands) = let (t, is, (now, zone)) = served s stands in (t, now)

-- An office's store had counted `first` refusals at first and `mid` at the second moment, and counts `last` in the end.
module _ (old now new : OfficeView) (first mid last : ℕ) (up : RepresentsSome old → first ≤ mid) (further : RepresentsSome now → mid ≤ last) where
  both_served : (arrivals : List Arrival) (arrival : Arrival) (readings later : List ClockReading) → ServesAll (CountsMore first mid) old now arrivals readings
      → ServesAll (CountsMore mid last) now new (arrival ∷ []) later → ServesAll (CountsMore first last) old new (arrivals ++ arrival ∷ []) (readings ++ later)
  both_served arrivals arrival readings later served one s stands =
      let (t, did, (now_stands, zone)) = served s stands in
      let (u, does, (new_stands, new_zone)) = one t now_stands in
      let rose : first ≤ mid = up (s, stands) in
      let rises : mid ≤ last = further (t, now_stands) in (
        u,
        served_more (CountsMore first last) (midnight_of old) (arrival ∷ []) later arrivals readings s t u
            (served_then (CountsMore first mid) (CountsMore first last) (more_at_first first mid last rose rises) (midnight_of old) arrivals readings s t did)
            (served_then (CountsMore mid last) (CountsMore first last) (more_later first mid last rose rises) (midnight_of old) (arrival ∷ []) later t u
            (subst (λ z. AreServed (CountsMore mid last) (midnight_in (plain_zone z)) (arrival ∷ []) later t u) zone does)),
        (new_stands, new_zone ∙ zone),
      )

  -- What came of awaiting connections leads from one state of the listener to another. What came of reading the clock leads from one state
  -- of the clock to another.
  module _ {L C : Type 0} (leads : L → List Arrival → L → Type 0) (before between after : L) (tells : C → List ClockReading → C → Type 0) (clock then_clock now_clock : C)
      (count : ℕ) (each : ServesEach (CountsMore first mid) old now leads before between tells clock then_clock count) where
    -- one more connection
    pub serves_more : ServesNext (CountsMore mid last) now new leads between after tells then_clock now_clock
        → ServesEach (CountsMore first last) old new leads before after tells clock now_clock (count + 1)
    serves_more next = record {
      arrivals = each.arrivals ++ next.arrival ∷ [];
      readings = each.readings ++ next.readings;
      awaited = length-append each.arrivals (next.arrival ∷ []) ∙ ap (λ n. n + 1) each.awaited;
      came = λ start begins. next.came start each.arrivals (each.came start begins);
      told = λ start begins. next.told start each.readings (each.told start begins);
      served = both_served each.arrivals next.arrival each.readings next.readings each.served next.served;
    }

    -- the count of refusals does not fall either
    pub refusals_more : RepresentsSome old → first ≤ last
    refusals_more some = omega (arith, up some, further (some_served (CountsMore first mid) old now each.arrivals each.readings each.served some))

-- before any connection is awaited
pub serves_none : (fails : Type 0) (office : OfficeView) {L C : Type 0} (leads : L → List Arrival → L → Type 0) (listener : L) (tells : C → List ClockReading → C → Type 0) (clock : C)
    → ServesEach fails office office leads listener listener tells clock clock 0
serves_none fails office leads listener tells clock = record {
  arrivals = [];
  readings = [];
  awaited = refl;
  came = λ first begins. begins;
  told = λ first begins. begins;
  served = λ s stands. (s, refl, (stands, refl));
}

-- What state an office represents after a request.
use Rattle.std.proofs.Common.{◌≡◌, ℤ, List, refl, sym, ap, subst, Bool, true, false, cond, map}
use Rattle.std.specs.Prelude.{MatchBool}
use Rattle.hh_time.specs.Days.{Midnights}
use Rattle.hh_requests.specs.declared.request.Request.{Request}
use Rattle.hh_requests.specs.declared.reply.Reply.{Reply}
use Rattle.hh_states.specs.Content.{tables_of, Content}
use Rattle.hh_states.specs.States.{State}
use Rattle.hh_states.specs.Steps.{IsReached}
use Rattle.hh_office.specs.steps.Loads.{NamesItsFile}
use Rattle.hh_office.specs.Machine.{answer, next, Timed, state_after}
use Rattle.hh_office.specs.Promises.{HandleStep, Represents, RepresentsAfter, is_given_up, ConservesAfter, ConservesAfterAll, RunAllStep, RunsAs, RepresentsAfterAll, served}
use Rattle.hh_office.specs.Refusals.{RepresentsSome}
use Rattle.hh_office.specs.Views.{OfficeView, midnight_of}
use Rattle.hh_office.proofs.OnceLaws.{AreNamed, next_reached, served_reached}
use Rattle.jiff.specs.Words.{plain_zone}
use Rattle.hh_time.specs.Zone.{midnight_in}
use Rattle.hh_day.specs.Headline.{Conserves, ReachedConserve}

-- the office after a request, by whether it was given up
represents_by : (b : Bool) (old new : OfficeView) (s t : State) (P : Type 0) → Represents old s → IsReached (midnight_of old) t
    → MatchBool b (new ≡ old) (P × (new ≡ record old { content = tables_of (midnight_of old) t })) → Represents new (cond b s t)
represents_by true old new s t P stands reached same = subst (λ o. Represents o s) (sym same) stands
represents_by false old new s t P stands reached comes = subst (λ o. Represents o t) (sym comes.1) (reached, refl)

-- if an office steps as the machine, it represents the machine's state
pub represents_after : (old new : OfficeView) (moment : ℤ) (request : Request) (given : Reply) → NamesItsFile request.action → HandleStep old new moment request given
    → RepresentsAfter old new moment request given
represents_after old new moment request given named steps s stands =
    let t : State = next (midnight_of old) s moment request in
    represents_by (is_given_up given) old new s t (given ≡ answer (midnight_of old) s moment request) stands (next_reached (midnight_of old) s moment request named stands.0) (steps s stands)

-- if an office represents a state, its tables add up
represents_conserves : ReachedConserve → (office : OfficeView) (midnight : Midnights) (s : State) → midnight ≡ midnight_of office → Represents office s
    → Conserves midnight s office.content
represents_conserves law office midnight s zone stands =
    subst (λ m. Conserves m s office.content) (sym zone) (subst (Conserves (midnight_of office) s) (sym stands.1) (law (midnight_of office) s stands.0))

-- a request leaves the zone of an office as it is
zone_by : (b : Bool) (old new : OfficeView) (P : Type 0) (content : Content) → MatchBool b (new ≡ old) (P × (new ≡ record old { content = content })) → new.zone ≡ old.zone
zone_by true old new P content same = ap (λ o. o.zone) same
zone_by false old new P content comes = ap (λ (o : OfficeView). o.zone) comes.1

-- if an office steps as the machine, its tables add up afterwards
pub conserves_after : ReachedConserve → (old new : OfficeView) (moment : ℤ) (request : Request) (given : Reply) → NamesItsFile request.action → HandleStep old new moment request given
    → ConservesAfter old new moment request given
conserves_after law old new moment request given named steps s stands =
    let t : State = next (midnight_of old) s moment request in
    let zone : new.zone ≡ old.zone = zone_by (is_given_up given) old new (given ≡ answer (midnight_of old) s moment request) (tables_of (midnight_of old) t) (steps s stands) in
    represents_conserves law new (midnight_of old) (cond (is_given_up given) s t) (ap (λ z. midnight_in (plain_zone z)) (sym zone)) (represents_after old new moment request given named steps s stands)

-- if an office runs a list as the machine, it represents the machine's state
pub represents_after_all : (old new : OfficeView) (requests : List Timed) (given : List Reply) → AreNamed requests → RunAllStep old new requests given
    → RepresentsAfterAll old new requests given
represents_after_all old new requests given named runs s stands =
    let ran : RunsAs old new s requests given = runs s stands in
    let done : List Timed = map (λ (r : Timed × Reply). r.0) (served requests given) in
    subst (λ (o : OfficeView). Represents o (state_after (midnight_of old) s done)) (sym ran.tables) (served_reached (midnight_of old) s requests given named stands.0, refl)

-- so it represents some state afterwards, if it did before
pub represents_some : (old new : OfficeView) (requests : List Timed) (given : List Reply) → AreNamed requests → RunAllStep old new requests given
    → RepresentsSome old → RepresentsSome new
represents_some old new requests given named runs (s, stands) =
    (state_after (midnight_of old) s (map (λ (r : Timed × Reply). r.0) (served requests given)), represents_after_all old new requests given named runs s stands)

-- if an office runs a list as the machine, its tables add up afterwards
pub conserves_after_all : ReachedConserve → (old new : OfficeView) (requests : List Timed) (given : List Reply) → AreNamed requests → RunAllStep old new requests given
    → ConservesAfterAll old new requests given
conserves_after_all law old new requests given named runs s stands =
    let ran : RunsAs old new s requests given = runs s stands in
    let done : List Timed = map (λ (r : Timed × Reply). r.0) (served requests given) in
    subst (λ (o : OfficeView). Conserves (midnight_of old) (state_after (midnight_of old) s done) o.content) (sym ran.tables)
    (law (midnight_of old) (state_after (midnight_of old) s done) (served_reached (midnight_of old) s requests given named stands.0))

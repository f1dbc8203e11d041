-- What comes of lines over an office whose tables are kept in a database, given what the database contains after them.
use Rattle.std.proofs.Common.{◌≡◌, ℕ, ◌<◌, Bool, List, Result, Ok, Err, subst, sym, arith, take}
use Rattle.std.specs.Prelude.{IfErr, IfOk, MatchResult, OnOk}
use Rattle.jiff.specs.Words.{plain_zone}
use Rattle.sqlite.specs.Effect.{Database}
use Rattle.hh_devices.specs.DeviceChanges.{DeviceChange}
use Rattle.hh_time.specs.Days.{Midnights}
use Rattle.hh_time.specs.Zone.{midnight_in}
use Rattle.hh_rows.specs.Values.{AreSettings}
use Rattle.hh_rows.specs.declared.settings.Settings.{Settings}
use Rattle.hh_states.specs.Changes.{TablesRepresent}
use Rattle.hh_states.specs.Content.{Content, tables_of}
use Rattle.hh_states.specs.States.{State, empty_state}
use Rattle.hh_states.specs.Steps.{at_first}
use Rattle.hh_sqlstore.specs.Values.{version}
use Rattle.hh_sqlstore.specs.Holds.{Holds}
use Rattle.hh_host.specs.Views.{HostView}
use Rattle.hh_session.specs.Headline.{ReachedConserve}
use Rattle.hh_session.specs.Refusals.{CountsMore}
use Rattle.hh_script.specs.Steps.{Step}
use Rattle.hh_session.specs.declared.run.LinesStop.{LinesStop}
use Rattle.hh_session.specs.declared.run.LinesStop.TheVariants.{Line, Output}
use Rattle.hh_session.specs.Course.{AllDoneButLast, LastNotDone, cut_after}
use Rattle.hh_session.proofs.GivingUpLaws.{script_then}
use Rattle.hh_kept_office.specs.declared.stop.DatabaseStop.{DatabaseStop}
use Rattle.hh_kept_office.specs.declared.stop.DatabaseStop.TheVariants.{Early, Refused}
use Rattle.hh_kept_office.specs.Running.{CutsFrom, CutsNew, CutsOver, EarlyNew, EarlyOver, HoldsState, IfEarly, WritesFrom, WritesNew, WritesOver}
use Rattle.hh_kept_office.specs.steps.Running.{EarlyBetween, RunsOver, StopsOver}

-- ---- what follows from a result

module _ {A E : Type 0} where
  pub ok_then : {P : Type 0} (r : Result A E) (x : A) → r ≡ Ok x → OnOk r P → P
  ok_then {P} r x is holds = subst (λ r. OnOk r P) is holds

  pub err_then : (P : E → Type 0) (r : Result A E) (e : E) → r ≡ Err e → IfErr r P → P e
  err_then P r e is holds = subst (λ r. IfErr r P) is holds

  pub ok_by : {P Q R : A → Type 0} (Q' : E → Type 0) (r : Result A E) → ((x : A) → P x → Q x → R x) → IfOk r P → MatchResult r Q Q' → IfOk r R
  ok_by Q (Ok x) gives first second = gives x first second
  ok_by Q (Err e) gives first second = tt

  pub err_by : {P R Q' : E → Type 0} (Q : A → Type 0) (r : Result A E) → ((e : E) → P e → Q' e → R e) → IfErr r P → MatchResult r Q Q' → IfErr r R
  err_by Q (Ok x) gives first second = tt
  err_by Q (Err e) gives first second = gives e first second

-- ---- what comes of lines

-- a count that has risen from none is above none
risen : (count : ℕ) → CountsMore 0 count → 0 < count
risen count more = more (omega arith)

module _ (host : HostView) (device : DeviceChange) (db : Database) where
  -- Lines were run over tables with content `old`, and left tables with content `new`, which the database contains.
  module _ (fails : Type 0) (conserve : ReachedConserve) (old new : Content) (holds : Holds version new db) where
    holds_state : (midnight : Midnights) (t : State) → TablesRepresent midnight new t → HoldsState midnight t db
    holds_state midnight t (reached, is) = record {
      holds = subst (λ c. Holds version c db) is holds;
      sums = conserve midnight t reached;
    }

    pub writes_over : (may : List Step → Bool → Type 0) (steps : List Step) → RunsOver host fails device old new may steps → WritesOver host fails device db steps old may
    writes_over may steps (zone, market, runs) = (
      zone,
      market,
      λ s stands.
          let (text, t, does, went, now) = runs s stands in
          (text, t, does, went, holds_state _ t now),
    )

    cuts_over : (strict : Bool) (steps : List Step) → StopsOver host fails device old new strict steps → CutsOver host fails device db steps old strict
    cuts_over strict steps (zone, market, stops) = (
      zone,
      market,
      λ s stands.
          let (count, text, t, does, went, now) = stops s stands in
          (count, text, t, does, went, holds_state _ t now),
    )

    pub early_over : (strict : Bool) (steps : List Step) (why : LinesStop) → EarlyBetween host fails device old new strict steps why
        → EarlyOver host fails device db strict steps old why
    early_over strict steps Output stops = cuts_over strict steps stops
    early_over strict steps (Line number) (may, runs) = (may, writes_over LastNotDone (take number steps) runs)

  -- The office had refused nothing before, and has refused `count` calls now.
  module _ (count : ℕ) where
    writes_where : (may : List Step → Bool → Type 0) (steps : List Step) (midnight : Midnights) (s : State)
        → WritesFrom host (CountsMore 0 count) device db steps may s midnight → WritesFrom host (0 < count) device db steps may s midnight
    writes_where may steps midnight s (text, t, does, went, held) =
        (text, t, script_then (CountsMore 0 count) (0 < count) (risen count) host midnight may s steps text t does, went, held)

    cuts_where : (strict : Bool) (steps : List Step) (midnight : Midnights) (s : State)
        → CutsFrom host (CountsMore 0 count) device db steps strict s midnight → CutsFrom host (0 < count) device db steps strict s midnight
    cuts_where strict steps midnight s (first, text, t, does, went, held) = (
      first,
      text,
      t,
      script_then (CountsMore 0 count) (0 < count) (risen count) host midnight (AllDoneButLast strict) s (cut_after first steps) text t does,
      went,
      held,
    )

    -- the office was taken over with the content that the database had
    pub writes_held : (may : List Step → Bool → Type 0) (steps : List Step) (old content : Content) → old ≡ content
        → WritesOver host (CountsMore 0 count) device db steps old may → WritesOver host (0 < count) device db steps content may
    writes_held may steps old content same (zone, market, writes) =
        let midnight = midnight_in (plain_zone zone) in
        (zone, market, λ s stands. writes_where may steps midnight s (writes s (subst (λ c. TablesRepresent midnight c s) (sym same) stands)))

    cuts_held : (strict : Bool) (steps : List Step) (old content : Content) → old ≡ content
        → CutsOver host (CountsMore 0 count) device db steps old strict → CutsOver host (0 < count) device db steps content strict
    cuts_held strict steps old content same (zone, market, cuts) =
        let midnight = midnight_in (plain_zone zone) in
        (zone, market, λ s stands. cuts_where strict steps midnight s (cuts s (subst (λ c. TablesRepresent midnight c s) (sym same) stands)))

    pub early_held : (strict : Bool) (steps : List Step) (old content : Content) → old ≡ content → (why : LinesStop)
        → EarlyOver host (CountsMore 0 count) device db strict steps old why → EarlyOver host (0 < count) device db strict steps content why
    early_held strict steps old content same Output cuts = cuts_held strict steps old content same cuts
    early_held strict steps old content same (Line number) (may, writes) = (may, writes_held LastNotDone (take number steps) old content same writes)

    -- a new office represents the empty state
    module _ (settings : Settings) (fine : AreSettings settings) (old : Content) (stands : (midnight : Midnights) → old ≡ tables_of midnight (empty_state settings)) where
      pub writes_new : (may : List Step → Bool → Type 0) (steps : List Step) → WritesOver host (CountsMore 0 count) device db steps old may
          → WritesNew host (0 < count) device db steps settings may
      writes_new may steps (zone, market, writes) =
          let midnight = midnight_in (plain_zone zone) in
          (zone, market, writes_where may steps midnight (empty_state settings) (writes (empty_state settings) (at_first settings fine, stands midnight)))

      cuts_new : (strict : Bool) (steps : List Step) → CutsOver host (CountsMore 0 count) device db steps old strict
          → CutsNew host (0 < count) device db steps settings strict
      cuts_new strict steps (zone, market, cuts) =
          let midnight = midnight_in (plain_zone zone) in
          (zone, market, cuts_where strict steps midnight (empty_state settings) (cuts (empty_state settings) (at_first settings fine, stands midnight)))

      pub early_new : (strict : Bool) (steps : List Step) (why : LinesStop) → EarlyOver host (CountsMore 0 count) device db strict steps old why
          → EarlyNew host (0 < count) device db strict steps settings why
      early_new strict steps Output cuts = cuts_new strict steps cuts
      early_new strict steps (Line number) (may, writes) = (may, writes_new LastNotDone (take number steps) writes)

-- what is known about lines that were not run to their end
pub if_early : (stop : DatabaseStop) (P Q : LinesStop → Type 0) → ((why : LinesStop) → P why → Q why) → IfEarly stop P → IfEarly stop Q
if_early (Early why) P Q then known = then why known
if_early (Refused fault) P Q then known = tt

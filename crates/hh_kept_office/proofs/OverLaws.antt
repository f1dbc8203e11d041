-- Lines that are run over an office, given the content of its tables before and after them.
use Rattle.std.proofs.Common.{◌≡◌, Bool, List, subst, sym, take}
use Rattle.jiff.specs.declared.tz.timezone.TimeZone.{TimeZone}
use Rattle.jiff.specs.Words.{plain_zone}
use Rattle.hh_devices.specs.DeviceChanges.{DeviceChange}
use Rattle.hh_time.specs.Zone.{midnight_in}
use Rattle.hh_states.specs.Changes.{TablesRepresent}
use Rattle.hh_states.specs.Content.{Content}
use Rattle.hh_states.specs.States.{State}
use Rattle.hh_host.specs.Views.{HostView}
use Rattle.hh_script.specs.Steps.{Step}
use Rattle.hh_session.specs.declared.run.LinesStop.{LinesStop}
use Rattle.hh_session.specs.declared.run.LinesStop.TheVariants.{Line, Output}
use Rattle.hh_session.specs.Course.{EndsEarly, LastNotDone, RunsScript, StopsScript}
use Rattle.hh_session.specs.Script.{IsMarketZone}
use Rattle.hh_session.specs.Views.{OfficeView, midnight_of}
use Rattle.hh_session.specs.Promises.{RepresentsNow}
use Rattle.hh_kept_office.specs.steps.Running.{EarlyBetween, RunsOver, StopsOver}

module _ (host : HostView) (fails : Type 0) (zone : TimeZone) (market : IsMarketZone zone)
    (old new : Content) (last : OfficeView) (same : new ≡ last.content) (device : DeviceChange) where
  abbrev first : OfficeView
  first = record { zone = zone; content = old }

  -- the tables that the office returns represent the state that the office represented
  represents_now : (t : State) → RepresentsNow first last t → TablesRepresent (midnight_in (plain_zone zone)) new t
  represents_now t (now, zoned) =
      subst (λ z. TablesRepresent (midnight_in (plain_zone z)) new t) zoned (subst (λ c. TablesRepresent (midnight_of last) c t) (sym same) now)

  pub runs_over : (may : List Step → Bool → Type 0) (steps : List Step) → RunsScript host fails first last device may steps → RunsOver host fails device old new may steps
  runs_over may steps runs = (zone, market, λ s stands. let (text, t, does, went, now) = runs s stands in (text, t, does, went, represents_now t now))

  stops_over : (strict : Bool) (steps : List Step) → StopsScript host fails first last device strict steps → StopsOver host fails device old new strict steps
  stops_over strict steps stops =
      (zone, market, λ s stands. let (count, text, t, does, went, now) = stops s stands in (count, text, t, does, went, represents_now t now))

  pub early_over : (strict : Bool) (steps : List Step) (why : LinesStop) → EndsEarly host fails first last device strict steps why
      → EarlyBetween host fails device old new strict steps why
  early_over strict steps Output stops = stops_over strict steps stops
  early_over strict steps (Line number) (may, runs) = (may, runs_over LastNotDone (take number steps) runs)

-- What a script's file reads as, and what its lines do over a new office.
use Rattle.std.proofs.Common.{◌≡◌, ℕ, ◌+◌, ◌<◌, ◌≤◌, List, length, take, refl, ap, subst, ◌∙◌, Bool, true, false, arith, ltb}
use Rattle.std.proofs.lemmas.Bool.{ltb-false, ltb-true}
use Rattle.std.proofs.lemmas.List.{length-take-le, take_all}
use Rattle.jiff.specs.declared.tz.timezone.TimeZone.{TimeZone}
use Rattle.jiff.specs.Words.{plain_zone}
use Rattle.hh_devices.specs.DeviceChanges.{DeviceChange, HasFailed}
use Rattle.hh_time.specs.Days.{Midnights}
use Rattle.hh_time.specs.Zone.{midnight_in}
use Rattle.hh_rows.specs.Values.{AreSettings}
use Rattle.hh_rows.specs.declared.settings.Settings.{Settings}
use Rattle.hh_states.specs.Content.{Content, tables_of}
use Rattle.hh_states.specs.States.{State, empty_state}
use Rattle.hh_states.specs.Steps.{IsReached, at_first}
use Rattle.hh_desk.specs.Views.{OfficeView, midnight_of}
use Rattle.hh_host.specs.Views.{HostView}
use Rattle.hh_desk.specs.Headline.{Conserves, ReachedConserve}
use Rattle.hh_desk.specs.Promises.{RepresentsNow}
use Rattle.hh_desk.specs.Refusals.{CountsMore}
use Rattle.hh_script.specs.Steps.{Step}
use Rattle.hh_session.specs.declared.run.LinesStop.{LinesStop}
use Rattle.hh_session.specs.declared.run.LinesStop.TheVariants.{Line, Output}
use Rattle.hh_session.specs.Course.{AllDoneButLast, EndsEarly, LastNotDone, RunsScript, ScriptDoes, StopsScript, cut_after}
use Rattle.hh_session.specs.Script.{IsMarketZone, NewOfficeCuts, NewOfficeEnds, NewOfficeWrites}
use Rattle.hh_session.proofs.GivingUpLaws.{script_then}

-- `bytes` is what was read of a file: its first `most + 1` bytes, or all of it if it has fewer.
module _ (most : ℕ) (all bytes : List ℕ) (front : bytes ≡ take (most + 1) all) where
  -- if more than `most` bytes were read, the file has more than `most`
  pub read_larger : most < length bytes → most < length all
  read_larger more = go (ltb most (length all)) refl
    where
      go : (b : Bool) → ltb most (length all) ≡ b → most < length all
      go true is = ltb-true most (length all) is
      go false is =
          let few : length all ≤ most = ltb-false most (length all) is in
          let same : length bytes ≡ length all = ap length (front ∙ take_all (most + 1) all (omega arith)) in
          absurd (omega arith)

  -- if not, all of the file was read
  pub read_whole : length bytes ≤ most → bytes ≡ all
  read_whole few = go (ltb most (length all)) refl
    where
      go : (b : Bool) → ltb most (length all) ≡ b → bytes ≡ all
      go false is = let less : length all ≤ most = ltb-false most (length all) is in front ∙ take_all (most + 1) all (omega arith)
      go true is =
          let larger : most < length all = ltb-true most (length all) is in
          let cut : length bytes ≡ most + 1 = ap length front ∙ length-take-le (most + 1) all (omega arith) in
          absurd (omega arith)

-- A new office is run.
module _ (host : HostView) (settings : Settings) (fine : AreSettings settings) (conserve : ReachedConserve) (zone : TimeZone) (market : IsMarketZone zone)
    (content : Content) (stands : (midnight : Midnights) → content ≡ tables_of midnight (empty_state settings)) (new : OfficeView) (device : DeviceChange) where
  abbrev first : OfficeView
  first = record { zone = zone; content = content }

  -- the tables of the state after it add up
  sums_now : (t : State) → RepresentsNow first new t → Conserves (midnight_of first) t (tables_of (midnight_of first) t)
  sums_now t ((reached, is), same) =
      conserve (midnight_of first) t (subst (λ z. IsReached (midnight_in (plain_zone z)) t) same reached)

  -- what the steps do if the store may have failed only where it counts a refusal, they do if it never fails, as it counts none
  never_fails : (may : List Step → Bool → Type 0) (ran : List Step) (text : List ℕ) (t : State)
      → ScriptDoes host (CountsMore 0 0) (midnight_of first) may (empty_state settings) ran text t
      → ScriptDoes host ⊥ (midnight_of first) may (empty_state settings) ran text t
  never_fails may ran text t does =
      script_then (CountsMore 0 0) ⊥ (λ more. absurd (omega (arith, more (omega arith)))) host (midnight_of first) may (empty_state settings) ran text t does

  pub new_office_writes : (may : List Step → Bool → Type 0) (steps : List Step) → RunsScript host (CountsMore 0 0) first new device may steps
      → NewOfficeWrites host settings device may steps
  new_office_writes may steps runs =
      let (text, t, does, went, now) = runs (empty_state settings) (at_first settings fine, stands (midnight_of first)) in
      (text, (zone, market, (t, never_fails may steps text t does, sums_now t now)), went)

  new_office_cuts : (strict : Bool) (steps : List Step) → StopsScript host (CountsMore 0 0) first new device strict steps → NewOfficeCuts host settings device strict steps
  new_office_cuts strict steps stops =
      let (count, text, t, does, went, now) = stops (empty_state settings) (at_first settings fine, stands (midnight_of first)) in
      (count, text, (zone, market, (t, never_fails (AllDoneButLast strict) (cut_after count steps) text t does, sums_now t now)), went)

  pub new_office_ends : (strict : Bool) (steps : List Step) (why : LinesStop) → (why ≡ Output → HasFailed device)
      → EndsEarly host (CountsMore 0 0) first new device strict steps why → NewOfficeEnds host settings device strict steps why
  new_office_ends strict steps Output failed stops = (failed refl, new_office_cuts strict steps stops)
  new_office_ends strict steps (Line number) failed (may, runs) = (may, new_office_writes LastNotDone (take number steps) runs)

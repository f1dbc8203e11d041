-- What comes of a script over a database.
use Rattle.std.proofs.Common.{◌≡◌, ℕ, Bool, List, inr, subst, sym, take, Result, Ok, Err}
use Rattle.std.specs.Prelude.{⊤, IsTrue}
use Rattle.sqlite.specs.Effect.{Database}
use Rattle.jiff.specs.Words.{plain_zone}
use Rattle.hh_devices.specs.DeviceChanges.{DeviceChange}
use Rattle.hh_time.specs.Zone.{midnight_in}
use Rattle.hh_states.specs.Content.{Content}
use Rattle.hh_host.specs.Views.{HostView}
use Rattle.hh_script.specs.Steps.{Step}
use Rattle.hh_session.proofs.GivingUpLaws.{script_then}
use Rattle.hh_session.specs.Course.{AllDone, AllDoneButLast, LastNotDone, cut_after}
use Rattle.hh_sqlstore.specs.Holds.{Holds}
use Rattle.hh_sqlstore.specs.TakenOver.{IsTakenOver}
use Rattle.hh_sqlstore.specs.Values.{version}
use Rattle.hh_kept_office.specs.declared.stop.DatabaseStop.{DatabaseStop}
use Rattle.hh_kept_office.specs.declared.stop.DatabaseStop.TheVariants as database
use Rattle.hh_kept_office.specs.Running.{CutsOver, EarlyOver, IfEarly, WereRefused, WritesOver}
use Rattle.hh_session.specs.Script.{IsScript}
use Rattle.hh_session.specs.declared.run.LinesStop.{LinesStop}
use Rattle.hh_session.specs.declared.run.LinesStop.TheVariants.{Line, Output}
use Rattle.hh_session.specs.declared.script.ScriptStop.{ScriptStop}
use Rattle.hh_session.specs.declared.script.ScriptStop.TheVariants as script
use Rattle.hh_kept_office.specs.Places.{Connected, LeavesConnected, TakesConnected}
use Rattle.hh_kept_office.specs.Scripts.{RunsFile}
use Rattle.hh_kept_office.specs.steps.Scripts.{RunsFileOver, stop_of}

-- what holds if the store may have failed where `fails` holds, holds if it may have failed where `others` holds
module _ (fails others : Type 0) (implies : fails → others) (host : HostView) (device : DeviceChange) (db : Database) (content : Content) where
  pub writes_then : (may : List Step → Bool → Type 0) (steps : List Step) → WritesOver host fails device db steps content may
      → WritesOver host others device db steps content may
  writes_then may steps (zone, market, writes) = (
    zone,
    market,
    λ s stands.
        let (text, t, does, went, held) = writes s stands in
        (text, t, script_then fails others implies host (midnight_in (plain_zone zone)) may s steps text t does, went, held),
  )

  cuts_then : (strict : Bool) (steps : List Step) → CutsOver host fails device db steps content strict → CutsOver host others device db steps content strict
  cuts_then strict steps (zone, market, cuts) = (
    zone,
    market,
    λ s stands.
        let (count, text, t, does, went, held) = cuts s stands in
        (count, text, t, script_then fails others implies host (midnight_in (plain_zone zone)) (AllDoneButLast strict) s (cut_after count steps) text t does, went, held),
  )

  pub early_then : (strict : Bool) (steps : List Step) (why : LinesStop) → EarlyOver host fails device db strict steps content why
      → EarlyOver host others device db strict steps content why
  early_then strict steps Output cuts = cuts_then strict steps cuts
  early_then strict steps (Line number) (may, writes) = (may, writes_then LastNotDone (take number steps) writes)

-- a script over tables that were taken over from a database with this content
module _ (host : HostView) (device : DeviceChange) (file : List ℕ) (found taken left : Connected) (content : Content) where
  module _ (holds : IsTrue taken.is_open → Holds version content found.committed)
      (same : (held : Content) → Holds version held found.committed → IsTrue taken.is_open → content ≡ held)
      (takes : TakesConnected found taken) (sure : IsTrue left.is_open → IsTrue taken.is_open) where
    takes_both : LeavesConnected taken left → TakesConnected found left
    takes_both more up =
        let (taken_up, now, committed) = more up in
        let (found_up, taken_now, taken_committed) = takes taken_up in
        (found_up, subst (IsTakenOver found.now) (sym now) taken_now, subst (IsTakenOver found.committed) (sym committed) taken_committed)

    pub runs_file : (strict : Bool) (result : Result Unit ScriptStop) → RunsFileOver host device file strict content taken left result
        → RunsFile host device file strict found left result
    runs_file strict (Ok x) (steps, is, writes) =
        (steps, is, λ held holding up. subst (λ c. WritesOver host ⊤ device left.committed steps c (AllDone strict)) (same held holding (sure up)) (writes up))
    runs_file strict (Err (script.Early why)) (steps, is, cuts) =
        (steps, is, λ held holding up. subst (λ c. EarlyOver host ⊤ device left.committed strict steps c why) (same held holding (sure up)) (cuts up))
    runs_file strict (Err script.File) (unread, more, silent) = (inr (λ up. (content, holds (sure up)), unread, takes_both more), silent)
    runs_file strict (Err (script.BadLine line word)) (unread, more, silent) = (inr (λ up. (content, holds (sure up)), unread, takes_both more), silent)
    runs_file strict (Err (script.Refused fault)) (unread, more, silent) = (inr (λ up. (content, holds (sure up)), unread, takes_both more), silent)

-- a script over tables was not run to its end
pub early_file : (host : HostView) (device : DeviceChange) (file : List ℕ) (strict : Bool) (content : Content) (taken left : Connected) (why : ScriptStop)
    (stop : DatabaseStop) → why ≡ stop_of stop → (WereRefused stop → ⊥) → (steps : List Step) → IsScript host file steps
    → IfEarly stop (λ early. IsTrue left.is_open → EarlyOver host ⊤ device left.committed strict steps content early)
    → RunsFileOver host device file strict content taken left (Err why)
early_file host device file strict content taken left why (database.Early early) is run steps script cuts =
    subst (λ w. RunsFileOver host device file strict content taken left (Err w)) (sym is) (steps, script, cuts)
early_file host device file strict content taken left why (database.Refused fault) is run steps script cuts = absurd (run tt)

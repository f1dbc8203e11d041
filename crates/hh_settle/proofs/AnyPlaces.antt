-- How a line is done, and how it stops, if nothing is known about the paths of databases
use Rattle.std.proofs.Common.{Bool, Ok, Err, inl, inr, List}
use Rattle.clap.specs.Words.{Text}
use Rattle.hh_devices.specs.DeviceChanges.{DeviceChange}
use Rattle.hh_host.specs.Views.{HostView}
use Rattle.hh_kept_office.specs.Places.{Places, any_places}
use Rattle.hh_kept_office.proofs.AnyLaws.{ends_any, makes_any, migrates_any, script_any}
use Rattle.hh_words.specs.Lines.{DatabaseCommand, Line, PeriodCommand, ScriptCommand}
use Rattle.hh_words.specs.Tasks.{Task, ToInit, ToLoad, ToMigrate, ToReport, ToRun, ToRunScript, ToServe}
use Rattle.hh_settle.specs.declared.stop.Stop.{Stop}
use Rattle.hh_settle.specs.Stops.{Does, DoesWords, Stops, StopsLine, StopsWords}
use Rattle.hh_settle.specs.Tasks.{DoesTask, EndsAsked, StopsAsked, StopsTask}

module _ (host : HostView) (places : Places) (strict : Bool) where
  module _ (path : Text) (device : DeviceChange) where
    asked_any : (task : Task) (result : _) → EndsAsked host places path device task result → EndsAsked host any_places path device task result
    asked_any task result (step, asks, ends) = (step, asks, ends_any places path device host step result ends)

    does_task : (task : Task) → DoesTask host places path device strict task → DoesTask host any_places path device strict task
    does_task (ToInit settings) makes = makes_any places path device settings (Ok tt) makes
    does_task ToMigrate migrates = migrates_any places path device (Ok tt) migrates
    does_task (ToLoad load) ends = asked_any (ToLoad load) (Ok tt) ends
    does_task (ToRun run) ends = asked_any (ToRun run) (Ok tt) ends
    does_task (ToReport asked) ends = asked_any (ToReport asked) (Ok tt) ends
    does_task (ToServe serve) ends = asked_any (ToServe serve) (Ok tt) ends
    does_task (ToRunScript file) ends = script_any places path device host file strict (Ok tt) ends

    stops_asked : (task : Task) (s : Stop) → StopsAsked host places path device task s → StopsAsked host any_places path device task s
    stops_asked task s (inl (why, is, ends)) = inl (why, is, asked_any task (Err why) ends)
    stops_asked task s (inr clock) = inr clock

    stops_task : (task : Task) (s : Stop) → StopsTask host places path device strict task s → StopsTask host any_places path device strict task s
    stops_task (ToInit settings) s (why, is, makes) = (why, is, makes_any places path device settings (Err why) makes)
    stops_task ToMigrate s (why, is, migrates) = (why, is, migrates_any places path device (Err why) migrates)
    stops_task (ToLoad load) s stops = stops_asked (ToLoad load) s stops
    stops_task (ToRun run) s stops = stops_asked (ToRun run) s stops
    stops_task (ToReport asked) s stops = stops_asked (ToReport asked) s stops
    stops_task (ToServe serve) s stops = stops_asked (ToServe serve) s stops
    stops_task (ToRunScript file) s (why, is, ends) = (why, is, script_any places path device host file strict (Err why) ends)

  does_line : (line : Line) (device : DeviceChange) → Does host places strict line device → Does host any_places strict line device
  does_line (PeriodCommand meter contracts price) device does = does
  does_line (ScriptCommand settings file) device does = does
  does_line (DatabaseCommand path task) device does = does_task path device task does

  stops_line : (device : DeviceChange) (line : Line) (s : Stop) → StopsLine host places strict device line s → StopsLine host any_places strict device line s
  stops_line device (PeriodCommand meter contracts price) s stops = stops
  stops_line device (ScriptCommand settings file) s stops = stops
  stops_line device (DatabaseCommand path task) s stops = stops_task path device task s stops

  pub does_any : (words : List Text) (device : DeviceChange) → DoesWords host places strict words device → DoesWords host any_places strict words device
  does_any words device (line, is, does) = (line, is, does_line line device does)

  stops_words : (words : List Text) (out : DeviceChange) (s : Stop) → StopsWords host places strict words out s → StopsWords host any_places strict words out s
  stops_words words out s (inl none) = inl none
  stops_words words out s (inr (line, is, stops)) = inr (line, is, stops_line out line s stops)

  pub stops_any : (explain : Bool) (words : List Text) (out err : DeviceChange) → Stops host places strict explain words out err
      → Stops host any_places strict explain words out err
  stops_any explain words out err (s, one, stops, told) = (s, one, stops_words words out s stops, told)

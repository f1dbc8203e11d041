-- If the store may have failed in more cases, a command ends as before; and an office with the same tables as another ends a command as
-- that one does.
use Rattle.std.proofs.Common.{◌≡◌, ℕ, List, subst, sym, ◌∙◌, Result, Ok, Err, inl, inr}
use Rattle.jiff.specs.Words.{plain_zone}
use Rattle.hh_devices.specs.DeviceChanges.{DeviceChange}
use Rattle.hh_time.specs.Days.{Midnights}
use Rattle.hh_time.specs.Zone.{midnight_in}
use Rattle.hh_names.specs.declared.fault.Refusal.{Refusal}
use Rattle.hh_states.specs.Changes.{TablesRepresent}
use Rattle.hh_states.specs.States.{State}
use Rattle.hh_http_serve.specs.Reports.{report_for}
use Rattle.hh_http_serve.specs.Views.{OfficeView, midnight_of}
use Rattle.hh_http_serve.specs.Promises.{RepresentsNow}
use Rattle.hh_host.specs.Views.{HostView}
use Rattle.hh_desk.proofs.GivingUpLaws.{fault_then, load_then, run_then}
use Rattle.hh_desk.proofs.ServedLaws.{served_then}
use Rattle.hh_desk.specs.declared.errand.ErrandStop.{ErrandStop}
use Rattle.hh_desk.specs.declared.errand.ErrandStop.TheVariants as stop
use Rattle.hh_desk.specs.Errands.{EndsErrand, ErrandComes, ErrandStep, Load, ErrandOutcome, Report, ReportComes, Run, Serve, cut_errand}

-- ---- from one condition on failures of the store to a weaker one

module _ (fails others : Type 0) (implies : fails → others) where
  report_then : (report : Result (List ℕ) Refusal) (outcome : ErrandOutcome) → ReportComes fails report outcome → ReportComes others report outcome
  report_then report (Ok text) is = is
  report_then report (Err (stop.Refused fault)) (inl refused) = inl refused
  report_then report (Err (stop.Refused fault)) (inr up) = inr (fault_then fails others implies fault up)
  report_then report (Err stop.Unreadable) none = absurd none
  report_then report (Err stop.NoSocket) none = absurd none
  report_then report (Err stop.Output) none = absurd none

  module _ (host : HostView) (midnight : Midnights) (s : State) where
    comes_then : (step : ErrandStep) (outcome : ErrandOutcome) (t : State) → ErrandComes host fails midnight s step outcome t → ErrandComes host others midnight s step outcome t
    comes_then (Load load) outcome t (told, does, is) = (told, load_then fails others implies midnight s host load told t does, is)
    comes_then (Run run) outcome t (told, does, is) = (told, run_then fails others implies midnight s run told t does, is)
    comes_then (Report asked) outcome t (comes, same) = (report_then (report_for midnight s asked.key asked.report) outcome comes, same)
    comes_then (Serve serve) (Ok text) t (port, is, told, (arrivals, readings, brings, many, at, served)) =
        (port, is, told, (arrivals, readings, brings, many, at, served_then fails others implies midnight arrivals readings s t served))
    comes_then (Serve serve) (Err why) t unserved = unserved

  pub ends_then : (host : HostView) (old new : OfficeView) (device : DeviceChange) (step : ErrandStep) (result : Result Unit ErrandStop)
      → EndsErrand host fails old new device step result → EndsErrand host others old new device step result
  ends_then host old new device step (Ok x) ends = λ s stands.
      let (text, t, comes, went, now) = ends s stands in (text, t, comes_then host (midnight_of old) s step (Ok text) t comes, went, now)
  ends_then host old new device step (Err stop.Output) ends = λ s stands.
      let (text, t, comes, went, now) = ends s stands in (text, t, comes_then host (midnight_of old) s (cut_errand step) (Ok text) t comes, went, now)
  ends_then host old new device step (Err (stop.Refused fault)) ends = λ s stands.
      let (t, comes, begun, now) = ends s stands in (t, comes_then host (midnight_of old) s step (Err (stop.Refused fault)) t comes, begun, now)
  ends_then host old new device step (Err stop.Unreadable) ends = λ s stands.
      let (t, comes, begun, now) = ends s stands in (t, comes_then host (midnight_of old) s step (Err stop.Unreadable) t comes, begun, now)
  ends_then host old new device step (Err stop.NoSocket) ends = λ s stands.
      let (t, comes, begun, now) = ends s stands in (t, comes_then host (midnight_of old) s step (Err stop.NoSocket) t comes, begun, now)

-- ---- an office that has the same tables

-- An office has the tables of another, and the zone of the office before it.
module _ (host : HostView) (fails : Type 0) (old last new : OfficeView) (content : new.content ≡ last.content) (zone : new.zone ≡ old.zone) (device : DeviceChange)
    (step : ErrandStep) where
  now_of : (t : State) → RepresentsNow old last t → RepresentsNow old new t
  now_of t (stands, zoned) =
      (subst (λ z. TablesRepresent (midnight_in (plain_zone z)) new.content t) (zoned ∙ sym zone) (subst (λ c. TablesRepresent (midnight_of last) c t) (sym content) stands), zone)

  pub ends_alike : (result : Result Unit ErrandStop) → EndsErrand host fails old last device step result → EndsErrand host fails old new device step result
  ends_alike (Ok x) ends = λ s stands. let (text, t, comes, went, now) = ends s stands in (text, t, comes, went, now_of t now)
  ends_alike (Err stop.Output) ends = λ s stands. let (text, t, comes, went, now) = ends s stands in (text, t, comes, went, now_of t now)
  ends_alike (Err (stop.Refused fault)) ends = λ s stands. let (t, comes, begun, now) = ends s stands in (t, comes, begun, now_of t now)
  ends_alike (Err stop.Unreadable) ends = λ s stands. let (t, comes, begun, now) = ends s stands in (t, comes, begun, now_of t now)
  ends_alike (Err stop.NoSocket) ends = λ s stands. let (t, comes, begun, now) = ends s stands in (t, comes, begun, now_of t now)

-- What is written for a line that asks for a report, given what the office wrote and what was told after it.
use Rattle.std.proofs.Common.{◌≡◌, ℕ, List, [], ◌++◌, refl, sym, ap, subst, ◌∙◌, Bool, true, false, Option, Result, Ok, Err, inl, inr}
use Rattle.std.specs.Prelude.{MatchBool}
use Rattle.std.specs.Io.KnownBytes.{Appends}
use Rattle.std.proofs.lemmas.List.{append_assoc}
use Rattle.hh_devices.specs.DeviceChanges.{DeviceChange, change}
use Rattle.hh_devices.specs.Devices.{AppendsFront}
use Rattle.hh_names.specs.declared.fault.Fault.{Fault}
use Rattle.hh_names.specs.declared.fault.Refusal.{Refusal}
use Rattle.hh_names.specs.Faults.{memory_fault, plain_fault}
use Rattle.hh_requests.specs.declared.reply.Reply.TheVariants as reply
use Rattle.hh_states.specs.States.{State}
use Rattle.hh_desk.specs.Reached.{AreReached}
use Rattle.hh_desk.specs.report.ReportStop.TheVariants.{Refused, Write}
use Rattle.hh_desk.specs.Promises.{Represents, RepresentsNow, gives_up}
use Rattle.hh_desk.specs.Refusals.{CountsMore, CountsStoreFault, RepresentsSome}
use Rattle.hh_desk.specs.Reports.{ReportsAs}
use Rattle.hh_desk.specs.Views.{OfficeView, midnight_of}
use Rattle.hh_host.specs.Views.{HostView}
use Rattle.hh_script.specs.Reports.{ReportStep}
use Rattle.hh_script.specs.Steps.{WriteReport}
use Rattle.hh_desk.specs.declared.told.Told.TheVariants.{Replied}
use Rattle.hh_session.specs.steps.Course.{BeginsLine, RunsStep, StopsStep, TellsLine}
use Rattle.hh_session.specs.Lines.{refusal_line}
use Rattle.hh_session.specs.Reporting.{GoesOut}
use Rattle.hh_session.specs.steps.Reporting.{BeginsReport, RunsReport}
use Rattle.hh_session.proofs.CourseLaws.{appends_more}
use Rattle.hh_desk.proofs.GivingUpLaws.{fault_where}

-- an office that represents a state has the tables of a state that the machine reaches
pub reached_by : (office : OfficeView) → RepresentsSome office → AreReached office.content
reached_by office (s, stands) = (midnight_of office, s, stands)

front_behind : (before between after : Option (List ℕ)) (text line : List ℕ) → Appends before between text → AppendsFront between after line → AppendsFront before after (text ++ line)
front_behind before between after text line went (front, rest, cut, more) =
    (text ++ front, rest, ap (λ bytes. text ++ bytes) cut ∙ sym (append_assoc text front rest), appends_more before between after text front went more)

-- The state of an output: before the line, after the office was done, and in the end.
module _ {S : Type 0} (taken : S → Option (List ℕ)) (failures : S → ℕ) (before between after : S) where
  pub cut_report : (fails : Type 0) (report : Result (List ℕ) Refusal) → ReportsAs (change taken failures before between) {A = Unit {0}} report (Err Write)
      → (done : Bool) × (text : List ℕ) × GoesOut fails report done text × AppendsFront (taken before) (taken between) text
  cut_report fails (Ok text) (went, failed) = (true, text, inl (refl, refl), went)
  cut_report fails (Err why) none = absurd none

  -- The store had counted `earlier` refusals before, and counts `later` now.
  module _ (fault : Fault) (earlier later : ℕ) (store : CountsStoreFault fault earlier later) where
    abbrev fails : Type 0
    fails = CountsMore earlier later

    -- the refusal of the whole report, if it does not give up
    refused_as : (b : Bool) → gives_up fault ≡ b → (why : Refusal) → MatchBool b (Unit {0}) (fault ≡ plain_fault why) → GoesOut fails (Err why) false (refusal_line fault)
    refused_as true up why is = inr (refl, ([], [], fault, refl, fault_where earlier later fault up store, refl))
    refused_as false up why is = inl (refl, ap refusal_line is)

    pub told_report : (report : Result (List ℕ) Refusal) → ReportsAs (change taken failures before between) {A = Unit {0}} report (Err (Refused fault))
        → TellsLine (change taken failures between after) (Replied (reply.Refused fault)) → (text : List ℕ) × GoesOut fails report false text × Appends (taken before) (taken after) text
    told_report (Ok text) ((front, rest, cut, went), (up, same)) (inl told) =
        (front ++ refusal_line fault, inr (refl, (front, rest, fault, cut, fault_where earlier later fault up store, refl)), appends_more (taken before) (taken between) (taken after) front (refusal_line fault) went told)
    told_report (Ok text) ((front, rest, cut, went), (up, same)) (inr (refusal, told)) =
        (front ++ refusal_line memory_fault, inr (refl, (front, rest, memory_fault, cut, inl refl, refl)), appends_more (taken before) (taken between) (taken after) front (refusal_line memory_fault) went told)
    told_report (Err why) (is, (none, same)) (inl told) =
        (refusal_line fault, refused_as (gives_up fault) refl why is, subst (λ b. Appends b (taken after) (refusal_line fault)) none told)
    told_report (Err why) (is, (none, same)) (inr (refusal, told)) =
        (refusal_line memory_fault, inr (refl, ([], [], memory_fault, refl, inl refl, refl)), subst (λ b. Appends b (taken after) (refusal_line memory_fault)) none told)

    pub begun_report : (report : Result (List ℕ) Refusal) → ReportsAs (change taken failures before between) {A = Unit {0}} report (Err (Refused fault))
        → BeginsLine (change taken failures between after) (Replied (reply.Refused fault)) → (done : Bool) × (text : List ℕ) × GoesOut fails report done text × AppendsFront (taken before) (taken after) text
    begun_report (Ok text) ((front, rest, cut, went), (up, same)) (inl told) =
        (false, front ++ refusal_line fault, inr (refl, (front, rest, fault, cut, fault_where earlier later fault up store, refl)), front_behind (taken before) (taken between) (taken after) front (refusal_line fault) went told)
    begun_report (Ok text) ((front, rest, cut, went), (up, same)) (inr (refusal, told)) =
        (false, front ++ refusal_line memory_fault, inr (refl, (front, rest, memory_fault, cut, inl refl, refl)), front_behind (taken before) (taken between) (taken after) front (refusal_line memory_fault) went told)
    begun_report (Err why) (is, (none, same)) (inl told) =
        (false, refusal_line fault, refused_as (gives_up fault) refl why is, subst (λ b. AppendsFront b (taken after) (refusal_line fault)) none told)
    begun_report (Err why) (is, (none, same)) (inr (refusal, told)) =
        (false, refusal_line memory_fault, inr (refl, ([], [], memory_fault, refl, inl refl, refl)), subst (λ b. AppendsFront b (taken after) (refusal_line memory_fault)) none told)

-- A line that asks for a report is a step of a script that leaves the office as it is.
module _ (host : HostView) (fails : Type 0) (old new : OfficeView) (same : new ≡ old) (device : DeviceChange) (step : ReportStep) where
  stays : (s : State) → Represents old s → RepresentsNow old new s
  stays s stands = (subst (λ o. Represents o s) (sym same) stands, ap (λ (o : OfficeView). o.zone) same)

  pub report_step : (done : Bool) → RunsReport fails old device step done → RunsStep host fails old new device (WriteReport step) done
  report_step done runs s stands = let (text, does, went) = runs s stands in (text, s, (does, refl), went, stays s stands)

  pub report_stop : BeginsReport fails old device step → StopsStep host fails old new device (WriteReport step)
  report_stop begins s stands = let (done, text, does, went) = begins s stands in (done, text, s, (does, refl), went, stays s stands)

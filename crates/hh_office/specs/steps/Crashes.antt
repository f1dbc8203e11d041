-- What a crash may leave after the parts of a request.
use Rattle.std.specs.Prelude.{List, Option, Result, Ok, Err}
use Rattle.hh_names.specs.declared.fault.Fault.{Fault}
use Rattle.hh_calc.specs.Terms.{Settled}
use Rattle.hh_rows.specs.declared.settlement_period.SettlementPeriod.{SettlementPeriod}
use Rattle.hh_runs.specs.declared.run_key.RunKey.{RunKey}
use Rattle.hh_requests.specs.declared.reply.Reply.{Reply}
use Rattle.hh_states.specs.Changes.{LoadChangeView, RunChangeView}
use Rattle.hh_states.specs.Content.{Content}
use Rattle.hh_office.specs.Crashes.{with_content}
use Rattle.hh_office.specs.Machine.{loaded_reply}
use Rattle.hh_office.specs.Promises.{UnlessFailed}
use Rattle.hh_office.specs.Views.{OfficeView}
use Rattle.hh_office.specs.steps.Loads.{Accepts, WritesLoad}
use Rattle.hh_office.specs.steps.Settling.{IsRunMade, WritesRun}

-- `holds` is true after a part of a request, unless the request is given up for it
abbrev pub IfTold : {A : Type 0} → Result A Fault → Type 0 → Type 0
IfTold (Ok x) holds = holds
IfTold (Err fault) holds = UnlessFailed fault holds

-- a load makes this content from the office's content
abbrev pub IsLoadedContent : OfficeView → LoadChangeView → Content → Type 0
IsLoadedContent office load content = WritesLoad office (with_content office content) load

-- an accepted file, for which this is written, makes this content from the office's content
abbrev pub IsAcceptedContent : OfficeView → LoadChangeView → Content → Type 0
IsAcceptedContent office load content = Accepts office (with_content office content) load (loaded_reply load.file)

-- a run makes this content from the office's content
abbrev pub IsRunContent : OfficeView → RunChangeView → Content → Type 0
IsRunContent office run content = WritesRun office (with_content office content) run

-- a run of these settled periods makes this content from the office's content
abbrev pub IsMadeContent : OfficeView → RunKey → List (SettlementPeriod × Settled) → Option RunKey → Content → Type 0
IsMadeContent office key day former content = (given : Reply) × IsRunMade office (with_content office content) key day former given

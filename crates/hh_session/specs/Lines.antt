-- What an office tells for the lines of a script.
use Rattle.std.specs.Prelude.{ℕ, Bool, false, not, List, [], ◌++◌, codes}
use Rattle.hh_names.specs.declared.fault.Fault.{Fault}
use Rattle.hh_names.specs.FaultText.{fault_text}
use Rattle.hh_requests.specs.declared.reply.Reply.{Reply}
use Rattle.hh_requests.specs.declared.reply.Reply.TheVariants as reply
use Rattle.hh_desk.specs.Promises.{is_refused}
use Rattle.hh_desk.specs.declared.told.Told.{Told}
use Rattle.hh_desk.specs.declared.told.Told.TheVariants as told
use Rattle.hh_desk.specs.Lines.{loaded_line, run_line}

-- the line of a refusal
abbrev pub refusal_line : Fault → List ℕ
refusal_line fault = fault_text fault ++ codes "\n"

-- the line of a reply (no line of a script asks for accounts, balances, contracts or the runs of a date)
abbrev pub reply_line : Reply → List ℕ
reply_line (reply.Loaded loaded) = loaded_line loaded
reply_line (reply.Ran run summary) = run_line run summary
reply_line (reply.Account rows) = []
reply_line (reply.Balance account moved) = []
reply_line (reply.Contracts contracts) = []
reply_line (reply.Runs runs) = []
reply_line (reply.Refused fault) = refusal_line fault

-- the line that tells what came of a line of a script
abbrev pub told_line : Told → List ℕ
told_line (told.Replied given) = reply_line given
told_line told.Unreadable = codes "fault file\n"

-- whether a load or a run was done: it was not refused and met no fault
abbrev pub told_done : Told → Bool
told_done (told.Replied given) = not (is_refused given)
told_done told.Unreadable = false

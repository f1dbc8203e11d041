-- The lines that tell what was done at the desk of an office.
use Rattle.std.specs.Prelude.{ℕ, List, ◌++◌, codes, decimal}
use Rattle.std.specs.Fmt.{signed_decimal}
use Rattle.hh_time.specs.DateText.{date_text}
use Rattle.hh_runs.specs.RunKinds.{run_kind_code}
use Rattle.hh_runs.specs.declared.summary.Summary.{Summary}
use Rattle.hh_runs.specs.declared.run_key.RunKey.{RunKey}
use Rattle.hh_requests.specs.declared.reply.Loaded.{Loaded}

-- `applied=N late=M`
abbrev pub loaded_line : Loaded → List ℕ
loaded_line loaded = codes "applied=" ++ decimal loaded.applied ++ codes " late=" ++ decimal loaded.late ++ codes "\n"

-- `run DATE KIND`
abbrev pub run_name : RunKey → List ℕ
run_name run = codes "run " ++ date_text run.date ++ codes " " ++ run_kind_code run.kind

-- ` periods N accounts N residual T postings N`, the residual in pence with its sign
abbrev pub summary_text : Summary → List ℕ
summary_text summary =
    codes " periods " ++ decimal summary.periods ++ codes " accounts " ++ decimal summary.accounts
    ++ codes " residual " ++ signed_decimal summary.residual ++ codes " postings " ++ decimal summary.postings

-- `run DATE KIND periods N accounts N residual T postings N`
abbrev pub run_line : RunKey → Summary → List ℕ
run_line run summary = run_name run ++ summary_text summary ++ codes "\n"

-- `listening 127.0.0.1:PORT`
abbrev pub listening_line : ℕ → List ℕ
listening_line port = codes "listening 127.0.0.1:" ++ decimal port ++ codes "\n"

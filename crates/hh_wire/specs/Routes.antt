-- What paths ask for, and with which method.
use Rattle.std.specs.Prelude.{ℕ, ◌==◌, List, [], ◌∷◌, Bool, true, false, Option, Some, None, option_map, codes, bytes_eq, if◌then◌else◌}
use Rattle.std.specs.List.{slice_split}
use Rattle.hh_time.specs.DateText.{date_value}
use Rattle.hh_names.specs.Accounts.{account_value}
use Rattle.hh_names.specs.Words.{is_file_name_byte, word_value}
use Rattle.hh_rows.specs.Kinds.{kind_value}
use Rattle.hh_runs.specs.RunKinds.{run_kind_value}
use Rattle.hh_requests.specs.declared.request.Action.{Action}
use Rattle.hh_requests.specs.declared.request.Action.TheVariants as ask

-- the parts of a path, between its slashes
abbrev pub parts_of : List ℕ → List (List ℕ)
parts_of path = slice_split (λ b. b == 47) path

-- what is made from two values, if both are there
abbrev pub of_both : {A B C : Type 0} → (A → B → C) → Option A → Option B → Option C
of_both make (Some a) (Some b) = Some (make a b)
of_both make _ _ = None

-- /balances/{account} and /runs/{date}
abbrev pub one_part : List ℕ → List ℕ → Option Action
one_part word part =
    if bytes_eq word (codes "balances") then option_map ask.Balance (account_value part)
    else if bytes_eq word (codes "runs") then option_map ask.Runs (date_value part)
    else None

-- /files/{kind}/{name}, /runs/{date}/{kind}, /accounts/{account}/{date} and /contracts/{account}/{date}
abbrev pub two_parts : List ℕ → List ℕ → List ℕ → List ℕ → Option Action
two_parts word first second body =
    if bytes_eq word (codes "files")
    then of_both (λ kind name. ask.Load (record { kind = kind; name = name; body = body })) (kind_value first) (word_value is_file_name_byte 1 64 second)
    else if bytes_eq word (codes "runs") then of_both (λ date kind. ask.Run (record { date = date; kind = kind })) (date_value first) (run_kind_value second)
    else if bytes_eq word (codes "accounts") then of_both ask.Account (account_value first) (date_value second)
    else if bytes_eq word (codes "contracts") then of_both ask.Contracts (account_value first) (date_value second)
    else None

-- what the parts of a path ask for, with a body
abbrev pub action_at : List (List ℕ) → List ℕ → Option Action
action_at ([] ∷ word ∷ part ∷ []) body = one_part word part
action_at ([] ∷ word ∷ first ∷ second ∷ []) body = two_parts word first second body
action_at _ body = None

-- the method of a path
abbrev pub method_of : Action → List ℕ
method_of (ask.Load upload) = codes "POST"
method_of (ask.Run run) = codes "POST"
method_of _ = codes "GET"

-- a file is sent
abbrev pub is_load : Action → Bool
is_load (ask.Load upload) = true
is_load _ = false

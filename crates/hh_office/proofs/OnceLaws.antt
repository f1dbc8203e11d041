-- A file that was accepted stays kept, and gets the same reply if it comes again. So does a run that was made.
use Rattle.std.proofs.Common.{◌≡◌, ℕ, ℤ, List, [], ◌∷◌, ◌++◌, length, refl, sym, ap, subst, ◌∙◌, Bool, true, false, cond, Option, Some, None, Result, Ok, Err, Ordering}
use Rattle.std.specs.Prelude.{IsFalse, IsTrue, MatchBool, map, nat_lt, not}
use Rattle.std.specs.List.{AllByRecursion}
use Rattle.std.specs.Cmp.{eq_by_cmp_equiv, Equal-is}
use Rattle.std.specs.FinMap.{find}
use Rattle.std.specs.Option.{option_or}
use Rattle.std.specs.Ordering.{eq_by_cmp}
use Rattle.std.specs.Str.{bytes_eq}
use Rattle.std.proofs.lemmas.Slice.Eq.{bytes_eq-Decides}
use Rattle.hh_tables.proofs.TableLaws.{false_is_not_true}
use Rattle.hh_time.specs.Days.{Midnights}
use Rattle.hh_names.specs.declared.fault.Fault.{Fault}
use Rattle.hh_names.specs.declared.fault.Refusal.TheVariants.{FileChanged, FileTooLarge, Forbidden}
use Rattle.hh_names.specs.Faults.{plain_fault}
use Rattle.hh_rows.specs.declared.rows.Row.{Row}
use Rattle.hh_rows.specs.declared.settings.Settings.{Settings}
use Rattle.hh_rules.specs.FileRows.{coming_at, first_fault}
use Rattle.hh_runs.specs.declared.run_key.RunKey.{RunKey}
use Rattle.hh_runs.specs.declared.summary.Summary.{Summary}
use Rattle.hh_requests.specs.declared.request.Action.{Action}
use Rattle.hh_requests.specs.declared.request.Action.TheVariants as ask
use Rattle.hh_requests.specs.declared.request.Request.{Request}
use Rattle.hh_requests.specs.declared.request.Upload.{Upload}
use Rattle.hh_requests.specs.declared.reply.Reply.{Reply}
use Rattle.hh_requests.specs.declared.reply.Reply.TheVariants as reply
use Rattle.hh_texts.specs.Files.{file_rows}
use Rattle.hh_texts.proofs.FileLaws.{file_reads}
use Rattle.hh_names.specs.Words.{is_file_name}
use Rattle.hh_rows.specs.RowKinds.{IsFileOf, most_bytes}
use Rattle.hh_states.specs.Content.{tables_of, Content}
use Rattle.hh_states.specs.declared.file_key.FileKey.{FileKey}
use Rattle.hh_states.specs.States.{KeptFileView, State, file_key_cmp}
use Rattle.hh_states.specs.Steps.{CanLoad, IsReached, Load, after_load, by_load, kept_file, timetable_at, CanRun, after_run, by_run, kept_summary, new_summary, run_fault}
use Rattle.hh_states.specs.Ranges.{IsKeptFile, ReachedFiles}
use Rattle.hh_states.specs.RunReads.{HoldsSummaries}
use Rattle.hh_states.specs.Changes.{LoadEffect, RunEffect}
use Rattle.hh_states.specs.Runs.{run_key_cmp}
use Rattle.hh_states.proofs.KeyLaws.{file_key_total, exact_run_keys, run_key_total}
use Rattle.hh_office.specs.steps.Loads.{NamesItsFile}
use Rattle.hh_office.specs.Machine.{Timed, act, is_operator, key_of, load, load_beside, load_new, load_read_as, loaded, loaded_reply, may, next, repeat_reply, state_after, step, answer}
use Rattle.hh_office.specs.Transitions.{Transition, refused, refused_for, unchanged}
use Rattle.hh_office.specs.Promises.{MakesTransition, HandleStep, RepeatsOnce, is_given_up, is_refused, served, Represents}
use Rattle.hh_office.specs.Views.{OfficeView, midnight_of}
use Rattle.hh_office.specs.Runs.{made_or_refused, run, run_beside}
use Rattle.std.proofs.lemmas.Option.{none-some}
use Rattle.std.specs.FinMap.Entries.{find-put}

-- if an action sends a file, `N` holds for the file's name
abbrev pub Passes : (List ℕ → Type 0) → Action → Type 0
Passes N (ask.Load upload) = N upload.name
Passes N _ = Unit {0}

-- a name in the grammar of files' names
abbrev pub IsFileName : List ℕ → Type 0
IsFileName name = IsTrue (is_file_name name)

named_passes : (action : Action) → NamesItsFile action → Passes IsFileName action
named_passes (ask.Load upload) named = named
named_passes (ask.Run key) named = tt
named_passes (ask.Account account date) named = tt
named_passes (ask.Balance account) named = tt
named_passes (ask.Contracts account date) named = tt
named_passes (ask.Runs date) named = tt

-- nothing is asked of the name
any_passes : (action : Action) → Passes (λ _. Unit {0}) action
any_passes (ask.Load upload) = tt
any_passes (ask.Run key) = tt
any_passes (ask.Account account date) = tt
any_passes (ask.Balance account) = tt
any_passes (ask.Contracts account date) = tt
any_passes (ask.Runs date) = tt

-- a load can be made, if its name is in its grammar
pub record MayLoad (midnight : Midnights) (s : State) (load : Load) : Type 0 where
  pub new : find file_key_cmp load.key s.files ≡ None
  pub file : IsFileOf load.key.kind load.body load.rows
  pub accepted : first_fault (timetable_at midnight s) s.history 1 (coming_at load.moment load.rows) ≡ None

can_load : (midnight : Midnights) (s : State) (load : Load) → IsFileName load.key.name → MayLoad midnight s load → CanLoad midnight s load
can_load midnight s load named may = record { new = may.new; named = named; file = may.file; accepted = may.accepted }

-- If something holds for a state, and for each state after an accepted load whose name passes or after a run that is made, it holds for the
-- state after any request whose name passes.
module _ (midnight : Midnights) (s : State) (N : List ℕ → Type 0) (P : State → Type 0) (same : P s)
    (more : (load : Load) → N load.key.name → MayLoad midnight s load → P (after_load midnight s load))
    (more_run : (moment : ℤ) (key : RunKey) → CanRun midnight s moment key → P (after_run s key)) where
  by_loaded : (load : Load) → N load.key.name → find file_key_cmp load.key s.files ≡ None → IsFileOf load.key.kind load.body load.rows → P (loaded midnight s load).state
  by_loaded load named new file =
      elim (first_fault (timetable_at midnight s) s.history 1 (coming_at load.moment load.rows)) as (λ o.
      first_fault (timetable_at midnight s) s.history 1 (coming_at load.moment load.rows) ≡ o
      → P (elim o as (λ _. Transition) [
        | Some fault ↦ refused s fault
        | None ↦ record { reply = loaded_reply (kept_file (timetable_at midnight s) load); state = after_load midnight s load }
      ]).state) [ None ↦ λ none. more load named (record { new = new; file = file; accepted = none }) | Some fault ↦ λ _. same ] refl

  by_new : (moment : ℤ) (upload : Upload) → N upload.name → find file_key_cmp (key_of upload) s.files ≡ None → P (load_new midnight s moment upload).state
  by_new moment upload named new =
      elim (file_rows upload.kind upload.body) as (λ (found : Result (List Row) Fault).
      file_rows upload.kind upload.body ≡ found
      → P (elim found as (λ _. Transition) [ Err fault ↦ refused s fault | Ok rows ↦ loaded midnight s (load_read_as moment upload rows) ]).state)
      [ Err fault ↦ λ _. same | Ok rows ↦ λ reads. by_loaded (load_read_as moment upload rows) named new (file_reads upload.kind upload.body rows reads) ] refl

  by_beside : (moment : ℤ) (upload : Upload) (found : Option KeptFileView) → N upload.name → find file_key_cmp (key_of upload) s.files ≡ found → P (load_beside midnight s found moment upload).state
  by_beside moment upload None named is = by_new moment upload named is
  by_beside moment upload (Some file) named is = same

  by_new_run : (moment : ℤ) (key : RunKey) → kept_summary midnight s key ≡ None → P (made_or_refused midnight s moment key).state
  by_new_run moment key new =
      elim (run_fault midnight s moment key) as (λ o.
      run_fault midnight s moment key ≡ o
      → P (elim o as (λ _. Transition) [
        | Some fault ↦ refused s fault
        | None ↦ record { reply = reply.Ran key (new_summary midnight s key); state = after_run s key }
      ]).state) [ None ↦ λ none. more_run moment key (new, none) | Some fault ↦ λ _. same ] refl

  by_run_beside : (moment : ℤ) (key : RunKey) (found : Option Summary) → kept_summary midnight s key ≡ found
      → P (run_beside midnight s found moment key).state
  by_run_beside moment key None is = by_new_run moment key is
  by_run_beside moment key (Some summary) is = same

  by_act : (moment : ℤ) (action : Action) → Passes N action → P (act midnight s moment action).state
  by_act moment (ask.Load upload) named =
      let found : Option KeptFileView = find file_key_cmp (key_of upload) s.files in
      elim (nat_lt most_bytes (length upload.body)) as (λ b. P (cond b (refused_for s FileTooLarge) (load_beside midnight s found moment upload)).state)
      [ true ↦ same | false ↦ by_beside moment upload found named refl ]
  by_act moment (ask.Run key) named = by_run_beside moment key (kept_summary midnight s key) refl
  by_act moment (ask.Account account date) named = same
  by_act moment (ask.Balance account) named = same
  by_act moment (ask.Contracts account date) named = same
  by_act moment (ask.Runs date) named = same

  pub next_by : (moment : ℤ) (request : Request) → Passes N request.action → P (next midnight s moment request)
  next_by moment request named =
      elim (may midnight s request.key request.action) as (λ b. P (cond b (act midnight s moment request.action) (refused_for s Forbidden)).state)
      [ true ↦ by_act moment request.action named | false ↦ same ]

-- what each request preserves, a list of requests preserves
pub after_by : (midnight : Midnights) (P : State → Type 0) → ((s : State) (moment : ℤ) (request : Request) → P s → P (next midnight s moment request))
    → (s : State) (ts : List Timed) → P s → P (state_after midnight s ts)
after_by midnight P keeps s [] holds = holds
after_by midnight P keeps s (t ∷ ts) holds = after_by midnight P keeps (next midnight s t.0 t.1) ts (keeps s t.0 t.1 holds)

-- the machine reaches the state after each request
pub next_reached : (midnight : Midnights) (s : State) (moment : ℤ) (request : Request) → NamesItsFile request.action → IsReached midnight s
    → IsReached midnight (next midnight s moment request)
next_reached midnight s moment request named reached =
    next_by midnight s IsFileName (IsReached midnight) reached (λ load name may. by_load s load reached (can_load midnight s load name may)) (λ at key can. by_run s at key reached can)
    moment request (named_passes request.action named)

-- each file that requests send has a name in its grammar
abbrev pub AreNamed : List Timed → Type 0
AreNamed ts = AllByRecursion (λ t. NamesItsFile t.1.action) ts

-- the machine reaches the state after a list of requests
pub all_reached : (midnight : Midnights) (s : State) (ts : List Timed) → AreNamed ts → IsReached midnight s → IsReached midnight (state_after midnight s ts)
all_reached midnight s [] named reached = reached
all_reached midnight s (t ∷ ts) named reached = all_reached midnight (next midnight s t.0 t.1) ts named.1 (next_reached midnight s t.0 t.1 named.0 reached)

-- the same for those of the requests that were served
named_served : (ts : List Timed) (rs : List Reply) → AreNamed ts → AreNamed (map (λ (x : Timed × Reply). x.0) (served ts rs))
named_served [] rs named = tt
named_served (t ∷ ts) [] named = tt
named_served (t ∷ ts) (r ∷ rs) named =
    elim (not (is_given_up r)) as (λ b. AreNamed (map (λ (x : Timed × Reply). x.0) (cond b ((t, r) ∷ served ts rs) (served ts rs))))
    [ true ↦ (named.0, named_served ts rs named.1) | false ↦ named_served ts rs named.1 ]

-- the machine reaches the state after those of a list of requests that were served
pub served_reached : (midnight : Midnights) (s : State) (ts : List Timed) (rs : List Reply) → AreNamed ts → IsReached midnight s
    → IsReached midnight (state_after midnight s (map (λ (x : Timed × Reply). x.0) (served ts rs)))
served_reached midnight s ts rs named reached = all_reached midnight s (map (λ (x : Timed × Reply). x.0) (served ts rs)) (named_served ts rs named) reached

-- the same with one more request
pub named_more : (ts : List Timed) (t : Timed) → AreNamed ts → NamesItsFile t.1.action → AreNamed (ts ++ t ∷ [])
named_more [] t named one = (one, tt)
named_more (u ∷ ts) t named one = (named.0, named_more ts t named.1 one)

-- the settings do not change
same_settings : (midnight : Midnights) (s : State) (moment : ℤ) (request : Request) (settings : Settings) → s.settings ≡ settings → (next midnight s moment request).settings ≡ settings
same_settings midnight s moment request settings is = next_by midnight s (λ _. Unit {0}) (λ t. t.settings ≡ settings) is (λ load _ may. is) (λ at key can. is) moment request (any_passes request.action)

-- what is found in a list with one more entry
find-push : {K V : Type 0} (R : K → K → Ordering) (q : K) (es : List (K × V)) (e : K × V) → find R q (es ++ e ∷ []) ≡ option_or (find R q es) (find R q (e ∷ []))
find-push R q [] e = refl
find-push R q (x ∷ es) e =
    ap (cond (eq_by_cmp R q x.0) (Some x.1)) (find-push R q es e)
    ∙ elim (eq_by_cmp R q x.0) as (λ b. cond b (Some x.1) (option_or (find R q es) (find R q (e ∷ []))) ≡ option_or (cond b (Some x.1) (find R q es)) (find R q (e ∷ []))) [ true ↦ refl | false ↦ refl ]

-- a file is kept under a key
abbrev IsKept : FileKey → KeptFileView → State → Type 0
IsKept key file s = find file_key_cmp key s.files ≡ Some file

-- a file that is kept stays kept
stays : (midnight : Midnights) (key : FileKey) (file : KeptFileView) (s : State) (moment : ℤ) (request : Request) → IsKept key file s → IsKept key file (next midnight s moment request)
stays midnight key file s moment request kept =
    next_by midnight s (λ _. Unit {0}) (IsKept key file) kept
    (λ load _ may. find-push file_key_cmp key s.files (load.key, kept_file (timetable_at midnight s) load)
    ∙ ap (λ o. option_or o (find file_key_cmp key ((load.key, kept_file (timetable_at midnight s) load) ∷ []))) kept) (λ at run can. kept) moment request (any_passes request.action)

-- if a file is accepted, it is kept with its reply
abbrev Keeps : Upload → Transition → Type 0
Keeps upload transition = IsFalse (is_refused transition.reply)
    → (file : KeptFileView) × IsKept (key_of upload) file transition.state × (repeat_reply file upload.body ≡ transition.reply)

not_refused : {X : Type 0} → true ≡ false → X
not_refused e = absurd (false_is_not_true (sym e))

module _ (midnight : Midnights) (s : State) (moment : ℤ) (upload : Upload) where
  -- a new file is found after it is kept
  new_kept : (file : KeptFileView) → find file_key_cmp (key_of upload) s.files ≡ None → find file_key_cmp (key_of upload) (s.files ++ (key_of upload, file) ∷ []) ≡ Some file
  new_kept file new =
      find-push file_key_cmp (key_of upload) s.files (key_of upload, file)
      ∙ ap (λ o. option_or o (find file_key_cmp (key_of upload) ((key_of upload, file) ∷ []))) new
      ∙ ap (λ b. cond b (Some file) None) ((eq_by_cmp_equiv file_key_total).refl (key_of upload))

  same_bytes : (file : KeptFileView) → file.body ≡ upload.body → repeat_reply file upload.body ≡ loaded_reply file
  same_bytes file is = ap (λ b. cond b (loaded_reply file) (reply.Refused (plain_fault FileChanged))) ((bytes_eq-Decides file.body upload.body).1 is)

  keeps_loaded : (rows : List Row) → find file_key_cmp (key_of upload) s.files ≡ None → Keeps upload (loaded midnight s (load_read_as moment upload rows))
  keeps_loaded rows new =
      let load : Load = load_read_as moment upload rows in
      let file : KeptFileView = kept_file (timetable_at midnight s) load in
      elim (first_fault (timetable_at midnight s) s.history 1 (coming_at moment rows)) as (λ o. Keeps upload (elim o as (λ _. Transition) [
        | Some fault ↦ refused s fault
        | None ↦ record { reply = loaded_reply file; state = after_load midnight s load }
      ])) [ Some fault ↦ not_refused | None ↦ λ _. (file, new_kept file new, same_bytes file refl) ]

  keeps_new : find file_key_cmp (key_of upload) s.files ≡ None → Keeps upload (load_new midnight s moment upload)
  keeps_new new =
      elim (file_rows upload.kind upload.body) as (λ (found : Result (List Row) Fault).
      Keeps upload (elim found as (λ _. Transition) [ Err fault ↦ refused s fault | Ok rows ↦ loaded midnight s (load_read_as moment upload rows) ]))
      [ Err fault ↦ not_refused | Ok rows ↦ keeps_loaded rows new ]

  keeps_beside : (found : Option KeptFileView) → find file_key_cmp (key_of upload) s.files ≡ found → Keeps upload (load_beside midnight s found moment upload)
  keeps_beside None is = keeps_new is
  keeps_beside (Some file) is = λ _. (file, is, refl)

-- A file is sent with a key.
module _ (midnight : Midnights) (key : List ℕ) (upload : Upload) where
  abbrev asked : Request
  asked = record { key = key; action = ask.Load upload }

  -- if the file is accepted, the key is the operator's, the file is not too large, and it is kept with its reply
  abbrev WasAccepted : State → Transition → Type 0
  WasAccepted s transition = IsFalse (is_refused transition.reply)
      → (is_operator midnight s key ≡ true) × (nat_lt most_bytes (length upload.body) ≡ false)
      × ((file : KeptFileView) × IsKept (key_of upload) file transition.state × (repeat_reply file upload.body ≡ transition.reply))

  module _ (s : State) (moment : ℤ) where
    abbrev beside : Transition
    beside = load_beside midnight s (find file_key_cmp (key_of upload) s.files) moment upload

    was_accepted : WasAccepted s (step midnight s moment asked)
    was_accepted =
        elim (is_operator midnight s key) as (λ b. is_operator midnight s key ≡ b → WasAccepted s (cond b (load midnight s moment upload) (refused_for s Forbidden))) [
          | false ↦ λ _. not_refused
          | true ↦ λ operator.
              elim (nat_lt most_bytes (length upload.body)) as (λ b. nat_lt most_bytes (length upload.body) ≡ b → WasAccepted s (cond b (refused_for s FileTooLarge) beside)) [
                | true ↦ λ _. not_refused
                | false ↦ λ small fine. (operator, small, keeps_beside midnight s moment upload (find file_key_cmp (key_of upload) s.files) refl fine)
              ] refl
        ] refl

    -- the file comes again, in a state in which it is kept
    again : (file : KeptFileView) → IsKept (key_of upload) file s → nat_lt most_bytes (length upload.body) ≡ false → is_operator midnight s key ≡ true
        → step midnight s moment asked ≡ unchanged s (repeat_reply file upload.body)
    again file kept small operator =
        ap (λ b. cond b (load midnight s moment upload) (refused_for s Forbidden)) operator
        ∙ ap (λ b. cond b (refused_for s FileTooLarge) beside) small
        ∙ ap (λ found. load_beside midnight s found moment upload) kept

-- nothing changed, whether the request was given up or not
unchanged_by : (b : Bool) (old new : OfficeView) (s : State) (P : Type 0) → old.content ≡ tables_of (midnight_of old) s
    → MatchBool b (new ≡ old) (P × (new ≡ record old { content = tables_of (midnight_of old) s })) → MatchBool b (Unit {0}) P × (new ≡ old)
unchanged_by true old new s P stands same = (tt, same)
unchanged_by false old new s P stands comes = (comes.0, comes.1 ∙ ap (λ c. record old { content = c }) (sym stands))

-- if an office steps as the machine, it answers a repeated file as before
pub repeats_upload : (key : List ℕ) (upload : Upload) (old new : OfficeView) (moment : ℤ) (given : Reply)
    → HandleStep old new moment (asked (midnight_of old) key upload) given → RepeatsOnce old new (asked (midnight_of old) key upload) given
repeats_upload key upload old new moment given steps s earlier between reached loads fine stands =
    let midnight = midnight_of old in
    let request : Request = asked midnight key upload in
    let (operator, small, (file, kept, same)) = was_accepted midnight key upload s earlier fine in
    let after : State = next midnight s earlier request in
    let t : State = state_after midnight after between in
    let kept_now : IsKept (key_of upload) file t = after_by midnight (IsKept (key_of upload) file) (stays midnight (key_of upload) file) after between kept in
    let settings : t.settings ≡ s.settings =
    after_by midnight (λ u. u.settings ≡ s.settings) (λ u m r. same_settings midnight u m r s.settings) after between (same_settings midnight s earlier request s.settings refl) in
    let operator_now : is_operator midnight t key ≡ true = ap (λ (c : Settings). bytes_eq c.operator_key key) settings ∙ operator in
    let comes : MakesTransition old new given (unchanged t (repeat_reply file upload.body)) = subst (MakesTransition old new given) (again midnight key upload t moment file kept_now small operator_now) (steps t stands) in
    subst (λ r. MatchBool (is_given_up given) (Unit {0}) (given ≡ r) × (new ≡ old)) same
    (unchanged_by (is_given_up given) old new t (given ≡ repeat_reply file upload.body) stands.1 comes)

-- the names of files are in their grammar
abbrev HaveNames : List (FileKey × KeptFileView) → Type 0
HaveNames files = AllByRecursion (λ f. IsFileName f.0.name) files

-- if that holds with one more file, it holds for the files and for that one
named_files : (files : List (FileKey × KeptFileView)) (f : FileKey × KeptFileView) → HaveNames (files ++ f ∷ []) → HaveNames files × IsFileName f.0.name
named_files [] f named = (tt, named.0)
named_files (e ∷ files) f named = let parts = named_files files f named.1 in ((named.0, parts.0), parts.1)

-- it holds for the files of a reached state
reached_names : (files : List (FileKey × KeptFileView)) → AllByRecursion (λ f. IsKeptFile f.0 f.1) files → HaveNames files
reached_names [] all = tt
reached_names (f ∷ files) all = (all.0.named, reached_names files all.1)

-- A run is ordered with a key.
module _ (midnight : Midnights) (shown : List ℕ) (key : RunKey) where
  abbrev ordered : Request
  ordered = record { key = shown; action = ask.Run key }

  -- the run exists with this summary, in a state that the machine reaches
  abbrev IsMade : Summary → State → Type 0
  IsMade summary s = IsReached midnight s × (kept_summary midnight s key ≡ Some summary)

  -- the same, if the names of all files are in their grammar
  abbrev IsMadeIfNamed : Summary → State → Type 0
  IsMadeIfNamed summary s = HaveNames s.files → IsMade summary s

  -- if the run is made, it exists with its reply
  abbrev WasMadeHere : State → Transition → Type 0
  WasMadeHere s transition = IsFalse (is_refused transition.reply)
      → (summary : Summary) × IsMade summary transition.state × (reply.Ran key summary ≡ transition.reply)

  -- if the run is made, the key is the operator's as well
  abbrev WasMade : State → Transition → Type 0
  WasMade s transition = IsFalse (is_refused transition.reply)
      → (is_operator midnight s shown ≡ true)
      × ((summary : Summary) × IsMade summary transition.state × (reply.Ran key summary ≡ transition.reply))

  -- a run that exists is ordered again
  repeated : (s : State) (moment : ℤ) (summary : Summary) → kept_summary midnight s key ≡ Some summary → is_operator midnight s shown ≡ true
      → step midnight s moment ordered ≡ unchanged s (reply.Ran key summary)
  repeated s moment summary kept operator =
      ap (λ b. cond b (run midnight s moment key) (refused_for s Forbidden)) operator ∙ ap (λ found. run_beside midnight s found moment key) kept

  -- The tables contain the summaries of a state's runs. What a load or a run writes makes the tables of the state after it.
  module _ (holds : HoldsSummaries) (loads : LoadEffect) (runs : RunEffect) (files : ReachedFiles) where
    -- the summary in the tables is the one that is kept
    kept_in : (t : State) (summary : Option Summary) → find run_key_cmp key (tables_of midnight t).runs ≡ summary → kept_summary midnight t key ≡ summary
    kept_in t summary found = sym (holds midnight t key) ∙ found

    -- a load leaves a run that exists
    stays_with_load : (summary : Summary) (s : State) (load : Load) → CanLoad midnight s load → IsMade summary s → IsMade summary (after_load midnight s load)
    stays_with_load summary s load can (reached, kept) = (
      by_load s load reached can,
      kept_in (after_load midnight s load) (Some summary)
          (ap (λ (c : Content). find run_key_cmp key c.runs) (loads midnight s load reached can) ∙ holds midnight s key ∙ kept),
    )

    -- the same if the load's name is known from the files in the state after it
    stays_if_named : (summary : Summary) (s : State) (load : Load) → MayLoad midnight s load → IsMadeIfNamed summary s → IsMadeIfNamed summary (after_load midnight s load)
    stays_if_named summary s load may made = λ names.
        let parts = named_files s.files (load.key, kept_file (timetable_at midnight s) load) names in
        stays_with_load summary s load (can_load midnight s load parts.1 may) (made parts.0)

    -- what is found under the key after a run is made
    found_after : (s : State) (moment : ℤ) (made : RunKey) → CanRun midnight s moment made
        → kept_summary midnight (after_run s made) key ≡ cond (eq_by_cmp run_key_cmp key made) (Some (new_summary midnight s made)) (kept_summary midnight s key)
    found_after s moment made can =
        kept_in (after_run s made) _ (ap (λ (c : Content). find run_key_cmp key c.runs) (runs midnight s moment made can)
        ∙ find-put run_key_cmp run_key_total key made (new_summary midnight s made) (tables_of midnight s).runs
        ∙ ap (cond (eq_by_cmp run_key_cmp key made) (Some (new_summary midnight s made))) (holds midnight s key))

    -- a run that exists is not the one that is made
    other_run : (summary : Summary) (s : State) (moment : ℤ) (made : RunKey) → CanRun midnight s moment made → kept_summary midnight s key ≡ Some summary
        → eq_by_cmp run_key_cmp key made ≡ false
    other_run summary s moment made can kept =
        elim (eq_by_cmp run_key_cmp key made) as (λ b. eq_by_cmp run_key_cmp key made ≡ b → b ≡ false) [
          | false ↦ λ _. refl
          | true ↦ λ same. absurd (none-some summary (sym can.0 ∙ ap (kept_summary midnight s) (sym (exact_run_keys key made ((Equal-is (run_key_cmp key made)).0 same))) ∙ kept))
        ] refl

    -- a new run leaves a run that exists
    stays_with_run : (summary : Summary) (s : State) (moment : ℤ) (made : RunKey) → CanRun midnight s moment made → IsMade summary s → IsMade summary (after_run s made)
    stays_with_run summary s moment made can (reached, kept) = (
      by_run s moment made reached can,
      found_after s moment made can
          ∙ ap (λ b. cond b (Some (new_summary midnight s made)) (kept_summary midnight s key)) (other_run summary s moment made can kept)
          ∙ kept,
    )

    -- a run that exists stays
    stays_made : (summary : Summary) (s : State) (moment : ℤ) (request : Request) → IsMadeIfNamed summary s → IsMadeIfNamed summary (next midnight s moment request)
    stays_made summary s moment request made =
        next_by midnight s (λ _. Unit {0}) (IsMadeIfNamed summary) made (λ load _ may. stays_if_named summary s load may made)
        (λ at other can names. stays_with_run summary s at other can (made names)) moment request (any_passes request.action)

    -- a run that is made exists afterwards
    made_new : (s : State) (moment : ℤ) → IsReached midnight s → kept_summary midnight s key ≡ None → WasMadeHere s (made_or_refused midnight s moment key)
    made_new s moment reached new =
        elim (run_fault midnight s moment key) as (λ o. run_fault midnight s moment key ≡ o → WasMadeHere s (elim o as (λ _. Transition) [
          | Some fault ↦ refused s fault
          | None ↦ record { reply = reply.Ran key (new_summary midnight s key); state = after_run s key }
        ])) [
          | Some fault ↦ λ _. not_refused
          | None ↦ λ none _. (
            new_summary midnight s key,
            (
              by_run s moment key reached (new, none),
              found_after s moment key (new, none)
                  ∙ ap (λ b. cond b (Some (new_summary midnight s key)) (kept_summary midnight s key)) ((eq_by_cmp_equiv run_key_total).refl key),
            ),
            refl,
          )
        ] refl

    made_beside : (s : State) (moment : ℤ) (found : Option Summary) → IsReached midnight s → kept_summary midnight s key ≡ found
        → WasMadeHere s (run_beside midnight s found moment key)
    made_beside s moment None reached is = made_new s moment reached is
    made_beside s moment (Some summary) reached is = λ _. (summary, (reached, is), refl)

    was_made : (s : State) (moment : ℤ) → IsReached midnight s → WasMade s (step midnight s moment ordered)
    was_made s moment reached =
        elim (is_operator midnight s shown) as (λ b. is_operator midnight s shown ≡ b → WasMade s (cond b (run midnight s moment key) (refused_for s Forbidden))) [
          | false ↦ λ _. not_refused
          | true ↦ λ operator fine. (operator, made_beside s moment (kept_summary midnight s key) reached refl fine)
        ] refl

    -- if an office steps as the machine, it answers a repeated run as before
    repeats_run : (old new : OfficeView) (moment : ℤ) (given : Reply) → midnight ≡ midnight_of old
        → ((s : State) → Represents old s → MakesTransition old new given (step midnight s moment ordered))
        → (s : State) (earlier : ℤ) (between : List Timed) → IsReached midnight s → IsFalse (is_refused (answer midnight s earlier ordered))
        → Represents old (state_after midnight (next midnight s earlier ordered) between)
        → MatchBool (is_given_up given) (Unit {0}) (given ≡ answer midnight s earlier ordered) × (new ≡ old)
    repeats_run old new moment given zone steps s earlier between reached fine stands =
        let (operator, (summary, made, same)) = was_made s earlier reached fine in
        let after : State = next midnight s earlier ordered in
        let t : State = state_after midnight after between in
        let made_now : IsMade summary t =
        after_by midnight (IsMadeIfNamed summary) (stays_made summary) after between (λ names. made) (reached_names t.files (files midnight t (subst (λ m. IsReached m t) (sym zone) stands.0))) in
        let settings : t.settings ≡ s.settings =
        after_by midnight (λ u. u.settings ≡ s.settings) (λ u m r. same_settings midnight u m r s.settings) after between (same_settings midnight s earlier ordered s.settings refl) in
        let operator_now : is_operator midnight t shown ≡ true = ap (λ (c : Settings). bytes_eq c.operator_key shown) settings ∙ operator in
        let comes : MakesTransition old new given (unchanged t (reply.Ran key summary)) =
        subst (MakesTransition old new given) (repeated t moment summary made_now.1 operator_now) (steps t stands) in
        subst (λ r. MatchBool (is_given_up given) (Unit {0}) (given ≡ r) × (new ≡ old)) same
        (unchanged_by (is_given_up given) old new t (given ≡ reply.Ran key summary) stands.1 comes)

-- the same for any request
pub repeats : (holds : HoldsSummaries) (loads : LoadEffect) (runs : RunEffect) (files : ReachedFiles) (old new : OfficeView) (moment : ℤ) (request : Request) (given : Reply)
    → HandleStep old new moment request given → RepeatsOnce old new request given
repeats holds loads runs files old new moment request given steps =
    elim request.action as (λ a. HandleStep old new moment (record { key = request.key; action = a }) given → RepeatsOnce old new (record { key = request.key; action = a }) given) [
      | ask.Load upload ↦ repeats_upload request.key upload old new moment given
      | ask.Run key ↦ λ does s earlier between reached changes fine stands.
          repeats_run (midnight_of old) request.key key holds loads runs files old new moment given refl does s earlier between reached fine stands
      | ask.Account account date ↦ λ _ s earlier between reached changes. not_refused (sym changes)
      | ask.Balance account ↦ λ _ s earlier between reached changes. not_refused (sym changes)
      | ask.Contracts account date ↦ λ _ s earlier between reached changes. not_refused (sym changes)
      | ask.Runs date ↦ λ _ s earlier between reached changes. not_refused (sym changes)
    ] steps

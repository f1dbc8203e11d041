-- What a crash leaves after a command, given what it leaves after the request that the command makes.
use Rattle.std.proofs.Common.{◌≡◌, ◌∙◌, ℕ, List, Bool, true, false, IsTrue, Result, Ok, Err, inl, inr, refl, subst, sym}
use Rattle.std.specs.Prelude.{◌⊎◌, MatchBool}
use Rattle.jiff.specs.declared.tz.timezone.TimeZone.{TimeZone}
use Rattle.sqlite.specs.Held.{Held, state}
use Rattle.sqlite.specs.State as connection
use Rattle.sqlite.specs.State.{HasCleanDisk}
use Rattle.sqlite_trees.specs.declared.store.Store.{Ghosts}
use Rattle.hh_time.specs.Days.{Midnights}
use Rattle.hh_names.specs.declared.fault.Fault.{Fault}
use Rattle.hh_names.specs.Faults.{memory_fault}
use Rattle.hh_requests.specs.declared.reply.Reply.{Reply}
use Rattle.hh_requests.specs.declared.reply.Reply.TheVariants as reply
use Rattle.hh_states.specs.Content.{Content, tables_of}
use Rattle.hh_states.specs.States.{State}
use Rattle.hh_store.specs.Crashes.{LeavesContent}
use Rattle.hh_store.specs.StoreFaults.{store_fault}
use Rattle.hh_store.specs.declared.store_fault.StoreFault.{StoreFault}
use Rattle.hh_session.specs.Promises.{Represents, gives_up, is_given_up}
use Rattle.hh_session.specs.Views.{Kept, OfficeView, midnight_of}
use Rattle.hh_host.specs.Views.{HostView}
use Rattle.hh_script.specs.Steps.{LoadStep, RunStep}
use Rattle.hh_script.specs.Reports.{ReportStep}
use Rattle.hh_session.specs.Crashes.{LoadLeaves, RunLeaves}
use Rattle.hh_session.specs.ErrandCrashes.{EndsBy, ErrandLeaves}
use Rattle.hh_session.specs.Errands.{ErrandOutcome, ErrandStep, Load, Report, Run, Serve, told_outcome}
use Rattle.hh_session.specs.errand.ErrandStop.{ErrandStop}
use Rattle.hh_session.specs.errand.ErrandStop.TheVariants as stop
use Rattle.hh_session.specs.told.Told.{Told}
use Rattle.hh_session.specs.told.Told.TheVariants.{Replied, Unreadable}
use Rattle.hh_sqlstore.specs.Holds.{Holds, TreesHold}
use Rattle.hh_sqlstore.specs.Leaving.{KeepsHeld}
use Rattle.hh_session.specs.Script.{IsMarketZone}
use Rattle.hh_sqlstore.specs.Stores.{IsHonestDisk, Stored, content_in}
use Rattle.hh_sqlstore.specs.Values.{version}
use Rattle.hh_kept_office.specs.Crashes.{CountsAs, HoldsWhatCounts, KeptLeaves, ReachedBy}
use Rattle.hh_kept_office.specs.Kept.{office_of}
use Rattle.hh_kept_office.specs.steps.Crashes.{ConnectionLeaves, OverLeaves}

either_way : (b : Bool) (B R : Type 0) → R → MatchBool b (B ⊎ R) R
either_way true B R r = inr r
either_way false B R r = r

match_so : (b : Bool) (A B C D : Type 0) → (A → C) → (B → D) → MatchBool b (A ⊎ B) B → MatchBool b (C ⊎ D) D
match_so true A B C D f g (inl a) = inl (f a)
match_so true A B C D f g (inr b) = inr (g b)
match_so false A B C D f g b = g b

-- ---- which state counts, given what was told

module _ (B R : Type 0) where
  -- after a load or a run that was done
  by_done : (told : Told) (text : List ℕ) → told_outcome told ≡ Ok text → (result : Result Unit ErrandStop) → EndsBy told result → R → CountsAs result B R
  by_done told text done (Ok x) ends r = r
  by_done told text done (Err stop.Output) ends r = r
  by_done told text done (Err (stop.Refused fault)) is r = absurd (let e : ◌≡◌ {A = ErrandOutcome} (Err (stop.Refused fault)) (Ok text) = sym is ∙ done in cc)
  by_done told text done (Err stop.Unreadable) is r = absurd (let e : ◌≡◌ {A = ErrandOutcome} (Err stop.Unreadable) (Ok text) = sym is ∙ done in cc)
  by_done told text done (Err stop.NoSocket) is r = absurd (let e : ◌≡◌ {A = ErrandOutcome} (Err stop.NoSocket) (Ok text) = sym is ∙ done in cc)

  -- after one that was refused
  by_refused : (fault : Fault) (result : Result Unit ErrandStop) → EndsBy (Replied (reply.Refused fault)) result → MatchBool (gives_up fault) (B ⊎ R) R → CountsAs result B R
  by_refused fault (Ok x) (text, is) crash = absurd (let e : ◌≡◌ {A = ErrandOutcome} (Err (stop.Refused fault)) (Ok text) = is in cc)
  by_refused fault (Err stop.Output) (text, is) crash = absurd (let e : ◌≡◌ {A = ErrandOutcome} (Err (stop.Refused fault)) (Ok text) = is in cc)
  by_refused fault (Err (stop.Refused other)) is crash =
      let e : ◌≡◌ {A = ErrandOutcome} (Err (stop.Refused fault)) (Err (stop.Refused other)) = is in
      let same : fault ≡ other = cc in
      subst (λ f. MatchBool (gives_up f) (B ⊎ R) R) same crash
  by_refused fault (Err stop.Unreadable) is crash = absurd (let e : ◌≡◌ {A = ErrandOutcome} (Err (stop.Refused fault)) (Err stop.Unreadable) = is in cc)
  by_refused fault (Err stop.NoSocket) is crash = absurd (let e : ◌≡◌ {A = ErrandOutcome} (Err (stop.Refused fault)) (Err stop.NoSocket) = is in cc)

  -- after one that the office answered
  by_reply : (given : Reply) (result : Result Unit ErrandStop) → EndsBy (Replied given) result → MatchBool (is_given_up given) (B ⊎ R) R → CountsAs result B R
  by_reply (reply.Refused fault) result ends crash = by_refused fault result ends crash
  by_reply (reply.Loaded loaded) result ends crash = by_done (Replied (reply.Loaded loaded)) _ refl result ends crash
  by_reply (reply.Ran run summary) result ends crash = by_done (Replied (reply.Ran run summary)) _ refl result ends crash
  by_reply (reply.Account rows) result ends crash = by_done (Replied (reply.Account rows)) _ refl result ends crash
  by_reply (reply.Balance account pence) result ends crash = by_done (Replied (reply.Balance account pence)) _ refl result ends crash
  by_reply (reply.Contracts rows) result ends crash = by_done (Replied (reply.Contracts rows)) _ refl result ends crash
  by_reply (reply.Runs runs) result ends crash = by_done (Replied (reply.Runs runs)) _ refl result ends crash

  -- after one about which the office was not asked, since memory was refused
  by_memory : (given : Reply) → given ≡ reply.Refused memory_fault → (result : Result Unit ErrandStop) → EndsBy (Replied given) result → B → CountsAs result B R
  by_memory given is result ends b = by_reply given result ends (subst (λ g. MatchBool (is_given_up g) (B ⊎ R) R) (sym is) (inl b))

  -- after one whose file cannot be read
  by_unreadable : (result : Result Unit ErrandStop) → EndsBy Unreadable result → B → CountsAs result B R
  by_unreadable (Ok x) (text, is) b = absurd (let e : ◌≡◌ {A = ErrandOutcome} (Err stop.Unreadable) (Ok text) = is in cc)
  by_unreadable (Err stop.Output) (text, is) b = absurd (let e : ◌≡◌ {A = ErrandOutcome} (Err stop.Unreadable) (Ok text) = is in cc)
  by_unreadable (Err (stop.Refused fault)) is b = absurd (let e : ◌≡◌ {A = ErrandOutcome} (Err stop.Unreadable) (Err (stop.Refused fault)) = is in cc)
  by_unreadable (Err stop.Unreadable) is b = b
  by_unreadable (Err stop.NoSocket) is b = b

  -- what is left fits both states, so it fits the one that counts
  by_both : (result : Result Unit ErrandStop) → B → R → CountsAs result B R
  by_both (Ok x) b r = r
  by_both (Err stop.Output) b r = r
  by_both (Err (stop.Refused fault)) b r = either_way (gives_up fault) B R r
  by_both (Err stop.Unreadable) b r = b
  by_both (Err stop.NoSocket) b r = b

-- ---- a command on tables that were open, at the office of the market's zone

kept_is : {T : Type 0} (k : Kept T) (office : OfficeView) (tables : T) → k.seen ≡ office → k.tables ≡ tables → k ≡ record { seen = office; tables = tables }
kept_is k office tables seen stood = let e : record { seen = k.seen; tables = k.tables } ≡ record { seen = office; tables = tables } = rw (seen, stood) refl in e

module _ {T L : Type 0} (H : T → Type 0) (O : T → Bool) (M : T → L → Type 0) (holds : L → Content → Type 0) (host : HostView) (zone : TimeZone) (market : IsMarketZone zone) (before : Content)
    (tables : T) (new : Kept T) (shows : LeavesContent O M holds tables before) where
  abbrev old : Kept T
  old = record { seen = office_of zone before; tables = tables }

  abbrev midnight : Midnights
  midnight = midnight_of (office_of zone before)

  module _ (honest : H new.tables) (stood : IsTrue (O tables)) (s : State) (stands : Represents (office_of zone before) s) (left : L) (may : M new.tables left) (result : Result Unit ErrandStop) where
    abbrev Before : Type 0
    Before = holds left (tables_of midnight s)

    abbrev Reached : ErrandStep → Type 0
    Reached step = (t : State) × ReachedBy host midnight s step t × holds left (tables_of midnight t)

    before_holds : holds left before → Before
    before_holds is = subst (holds left) stands.1 is

    unasked : new ≡ old → Before
    unasked same = before_holds (shows stood left (subst (λ (k : Kept T). M k.tables left) same may))

    load_counts : (load : LoadStep) (told : Told) → LoadLeaves H O M holds old new host load told → EndsBy told result → CountsAs result Before (Reached (Load load))
    load_counts load Unreadable same ends = by_unreadable Before (Reached (Load load)) result ends (unasked same)
    load_counts load (Replied given) (inl (body, reads, crash)) ends =
        by_reply Before (Reached (Load load)) given result ends (match_so (is_given_up given) _ _ _ _ before_holds (λ is. (_, (body, reads, refl), is)) (crash honest stood s stands left may))
    load_counts load (Replied given) (inr (is, same)) ends = by_memory Before (Reached (Load load)) given is result ends (unasked same)

    run_counts : (run : RunStep) (told : Told) → RunLeaves H O M holds old new run told → EndsBy told result → CountsAs result Before (Reached (Run run))
    run_counts run Unreadable none ends = absurd none
    run_counts run (Replied given) (inl crash) ends =
        by_reply Before (Reached (Run run)) given result ends (match_so (is_given_up given) _ _ _ _ before_holds (λ is. (_, refl, is)) (crash honest stood s stands left may))
    run_counts run (Replied given) (inr (is, same)) ends = by_memory Before (Reached (Run run)) given is result ends (unasked same)

    report_counts : (asked : ReportStep) → M tables left → CountsAs result Before (Reached (Report asked))
    report_counts asked earlier = let b = before_holds (shows stood left earlier) in by_both Before (Reached (Report asked)) result b (s, refl, b)

  over_leaves : (step : ErrandStep) (result : Result Unit ErrandStop) → ErrandLeaves H O M holds old new host step result → OverLeaves H O M holds host tables new.tables before step result
  over_leaves (Load load) result leaves =
      λ honest. (leaves.0 honest, λ stood. (zone, market, λ s stands left may. load_counts honest stood s stands left may result load leaves.1.0 leaves.1.1 leaves.1.2))
  over_leaves (Run run) result leaves =
      λ honest. (leaves.0 honest, λ stood. (zone, market, λ s stands left may. run_counts honest stood s stands left may result run leaves.1.0 leaves.1.1 leaves.1.2))
  over_leaves (Report asked) result leaves =
      λ honest. let adds = leaves honest in (adds.0, λ stood. (zone, market, λ s stands left may. report_counts honest stood s stands left may result asked ((adds.1 stood).1 left may)))
  over_leaves (Serve serve) result leaves = tt

  -- an office had the tables before, and returns the tables after
  pub leaves_over : (k : Kept T) → k.seen ≡ office_of zone before → k.tables ≡ tables → (last : T) → last ≡ new.tables → (step : ErrandStep) (result : Result Unit ErrandStop)
      → ErrandLeaves H O M holds k new host step result → OverLeaves H O M holds host tables last before step result
  leaves_over k seen at last is step result leaves =
      subst (λ t. OverLeaves H O M holds host tables t before step result) (sym is)
      (over_leaves step result (subst (λ (o : Kept T). ErrandLeaves H O M holds o new host step result) (kept_is k (office_of zone before) tables seen at) leaves))

-- ---- a command on a database

module _ {S : Type 0} (g : Ghosts S) (host : HostView) where
  -- what a crash leaves of tables is what it leaves of their connection
  pub connection_leaves : (tables last : Stored S) (connection : Held S) → connection ≡ last.connection → (step : ErrandStep) (result : Result Unit ErrandStop)
      → OverLeaves (IsHonestDisk g) (λ (t : Stored S). (state g t.connection).is_open) (λ (t : Stored S) trees. (state g t.connection).may_leave trees) TreesHold host tables last (content_in g tables) step result
      → ConnectionLeaves g host tables.connection connection (content_in g tables) step result
  connection_leaves tables last connection is (Load load) result leaves = subst (λ c. ConnectionLeaves g host tables.connection c (content_in g tables) (Load load) result) (sym is) leaves
  connection_leaves tables last connection is (Run run) result leaves = subst (λ c. ConnectionLeaves g host tables.connection c (content_in g tables) (Run run) result) (sym is) leaves
  connection_leaves tables last connection is (Report asked) result leaves = subst (λ c. ConnectionLeaves g host tables.connection c (content_in g tables) (Report asked) result) (sym is) leaves
  connection_leaves tables last connection is (Serve serve) result leaves = tt

  -- tables that were taken over
  module _ (found taken last : Held S) (seen : Content) (was_open : HasCleanDisk (state g taken) → IsTrue (state g taken).is_open)
      (is : (content : Content) → Holds version content (state g found).committed → IsTrue (state g taken).is_open → seen ≡ content) where
    used : (step : ErrandStep) (result : Result Unit ErrandStop)
        → (HasCleanDisk (state g last) → HasCleanDisk (state g taken) × (IsTrue (state g taken).is_open → HoldsWhatCounts host seen step result TreesHold (state g last).may_leave))
        → HasCleanDisk (state g last) → (before : Content) → Holds version before (state g found).committed → HoldsWhatCounts host before step result TreesHold (state g last).may_leave
    used step result leaves clean before holds =
        let at = leaves clean in
        let stands = was_open at.0 in
        subst (λ content. HoldsWhatCounts host content step result TreesHold (state g last).may_leave) (is before holds stands) (at.1 stands)

    pub used_leaves : (step : ErrandStep) (result : Result Unit ErrandStop) → ConnectionLeaves g host taken last seen step result → KeptLeaves host (state g found) (state g last) step result
    used_leaves (Load load) result leaves = λ clean stood before holds. inl (used (Load load) result leaves clean before holds)
    used_leaves (Run run) result leaves = λ clean stood before holds. inl (used (Run run) result leaves clean before holds)
    used_leaves (Report asked) result leaves = λ clean stood before holds. inl (used (Report asked) result leaves clean before holds)
    used_leaves (Serve serve) result leaves = tt

-- tables that were not taken over
pub unused_leaves : (host : HostView) (found last : connection.State) → KeepsHeld found last
    → (fault : StoreFault) (step : ErrandStep) → KeptLeaves host found last step (Err (stop.Refused (store_fault fault)))
unused_leaves host found last keeps fault (Load load) = λ clean stood before holds. inr (fault, refl, (keeps clean).1 stood before holds)
unused_leaves host found last keeps fault (Run run) = λ clean stood before holds. inr (fault, refl, (keeps clean).1 stood before holds)
unused_leaves host found last keeps fault (Report asked) = λ clean stood before holds. inr (fault, refl, (keeps clean).1 stood before holds)
unused_leaves host found last keeps fault (Serve serve) = tt

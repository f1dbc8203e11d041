-- What commands leave of two files, one after the other.
use Rattle.std.proofs.Common.{List, [], ◌∷◌, ◌++◌, refl, ◌≡◌, IsTrue, sym, subst, append_assoc}
use Rattle.std.proofs.lemmas.List.{append-nil}
use Rattle.std.proofs.Math.Logic.{∥∥₁_elim, ∥∥₁_map}
use Rattle.sqlite_disk.specs.declared.Disk.{Ghosts}
use Rattle.sqlite_disk.specs.declared.Files.{Files}
use Rattle.sqlite_wal.specs.Files.{outcomes}
use Rattle.sqlite_wal.proofs.LogLemmas.{SeenMayStay}
use Rattle.sqlite_trees.specs.Tree.{Trees}
use Rattle.sqlite_trees.specs.Objects.{catalog_tree}
use Rattle.sqlite_schema.specs.declared.schema.Schema.{Schema}
use Rattle.sqlite_catalog.specs.Listing.{IsSound}
use Rattle.sqlite_catalog.proofs.ReadLemmas.{lists_once}
use Rattle.sqlite_store.specs.declared.store.FileStore.{FileStore}
use Rattle.sqlite_store.specs.Laws.{settled_at}
use Rattle.sqlite.specs.Effect.{Database}
use Rattle.sqlite.specs.Held.{Held}
use Rattle.sqlite.specs.State.{HasCleanDisk}
use Rattle.sqlite.specs.Files.{file_state, image_of, Finds, IsOpened}
use Rattle.hh_time.specs.Days.{Midnights}
use Rattle.hh_rows.specs.declared.settings.Settings.{Settings}
use Rattle.hh_requests.specs.declared.reply.Reply.{Reply}
use Rattle.hh_states.specs.Content.{Content, tables_of}
use Rattle.hh_states.specs.States.{State, empty_state}
use Rattle.hh_states.specs.Steps.{IsReached}
use Rattle.hh_keyed_rows.specs.Values.{version}
use Rattle.hh_sqlrows.specs.OfficeSchema.{office}
use Rattle.hh_sqlstore.specs.Holds.{Holds, TreesHold}
use Rattle.hh_file_life.specs.declared.life.FileCommand.{FileCommand}
use Rattle.hh_file_life.specs.Life.{AreCounted, IsCounted, LeaveOnly, LeaveState, LeaveStates, ReadAs}
use Rattle.hh_file_life.specs.steps.Answers.{AnswersIn}

-- a crash may leave what was written
seen : {D : Type 0} (g : Ghosts D) (stays : SeenMayStay g) (files : Files D) → outcomes g files.log files.db (image_of g files)
seen g stays files = (stays files.log, stays files.db)

-- trees list only one schema: what contains an office's trees is opened with an office's schema
one_schema : (s t : Schema) (db : Trees) → IsSound s db → IsSound t db → s ≡ t
one_schema s t db p q = lists_once (db catalog_tree) s t p.lists q.lists

module _ {D : Type 0} (g : Ghosts D) (first : Files D) (midnight : Midnights) (s : State) (reached : IsReached midnight s) (read : ReadAs g first midnight s) where
  -- the opened connection has committed the tables of the state as which the files read
  opened_holds : (c : Held (FileStore D g)) → IsOpened c → Finds first c → Holds version (tables_of midnight s) (file_state c).committed
  opened_holds c opened found =
      let found_trees = (file_state c).committed.trees in
      let same : found_trees ≡ read.0 = found.holds read.0 read.1 in
      let holds = subst (λ (ts : Trees). TreesHold ts (tables_of midnight s)) (sym same) read.2 in
      let schema : (file_state c).committed.schema ≡ office = one_schema (file_state c).committed.schema office found_trees (opened.1 opened.0.is_open).1 holds.is_office.sound in
      subst (λ (named : Schema). Holds version (tables_of midnight s) (record { schema = named; trees = found_trees })) (sym schema) holds

  -- what an answer leaves of the connection, the files contain after its end
  pub lives_once : (command : FileCommand) (given : Reply) (before after : Held (FileStore D g)) (last : Files D) → IsOpened before → Finds first before
      → AnswersIn midnight command (file_state before) (file_state after) given → HasCleanDisk (file_state after) → LeaveOnly g last (file_state after).may_leave
      → LeaveStates g last midnight (IsCounted midnight s command given)
  lives_once command given before after last opened found answers clean left image may =
      let left_of = (answers clean).1 opened.0.is_open s reached (opened_holds before opened found) in
      ∥∥₁_map (left image may) (λ it. (it.0, it.1, left_of it.0 it.2))

-- commands go on from a state as they go on from the first
abbrev pub GoesOn : Midnights → State → List FileCommand → List Reply → List FileCommand → State → Type 0
GoesOn midnight s all given rest t =
    (end : State) (more : List Reply) → AreCounted midnight t rest more end → AreCounted midnight s all (given ++ more) end

goes_on : (midnight : Midnights) (s t next : State) (all : List FileCommand) (given : List Reply) (command : FileCommand) (rest : List FileCommand) (reply : Reply)
    → GoesOn midnight s all given (command ∷ rest) t → IsCounted midnight t command reply next → GoesOn midnight s all (given ++ reply ∷ []) rest next
goes_on midnight s t next all given command rest reply until one end more counts =
    subst (λ (replies : List Reply). AreCounted midnight s all replies end) (sym (append_assoc given (reply ∷ []) more)) (until end (reply ∷ more) (next, one, counts))

module _ {D : Type 0} (g : Ghosts D) (stays : SeenMayStay g) (midnight : Midnights) (s : State) (all : List FileCommand) where
  -- nothing has run
  pub lives_begin : (files : Files D) → IsReached midnight s → LeaveState g files midnight s → LeaveStates g files midnight (GoesOn midnight s all [] all)
  lives_begin files reached leaves image may = ∥∥₁_map (leaves image may) (λ it. (it.0, it.1, (s, reached, λ end more counts. counts, it.2)))

  -- one more command
  pub lives_on : (files next : Files D) (given : List Reply) (left : List FileCommand) (command : FileCommand) (rest : List FileCommand) (reply : Reply) → left ≡ command ∷ rest
      → LeaveStates g files midnight (GoesOn midnight s all given left)
      → ((t : State) → IsReached midnight t → ReadAs g files midnight t → LeaveStates g next midnight (IsCounted midnight t command reply))
      → LeaveStates g next midnight (GoesOn midnight s all (given ++ reply ∷ []) rest)
  lives_on files next given left command rest reply is until one image may =
      ∥∥₁_elim (until (image_of g files) (seen g stays files)) squash₁ (λ it.
      let (t, reached, so_far, holds) = it.2 in
      let from = subst (λ (commands : List FileCommand). GoesOn midnight s all given commands t) is so_far in
      ∥∥₁_map (one t reached (it.0, it.1, holds) image may) (λ found.
      let (after, is_reached, counts, held) = found.2 in
      (found.0, found.1, (after, is_reached, goes_on midnight s t after all given command rest reply from counts, held))))

  -- all commands have run
  pub lives_end : (last : Files D) (given : List Reply) (left : List FileCommand) → left ≡ [] → LeaveStates g last midnight (GoesOn midnight s all given left)
      → LeaveStates g last midnight (AreCounted midnight s all given)
  lives_end last given left none until image may = ∥∥₁_map (until image may) (λ it.
      let (t, reached, so_far, holds) = it.2 in
      let rest = subst (λ (commands : List FileCommand). GoesOn midnight s all given commands t) none so_far in
      let counts = subst (λ (replies : List Reply). AreCounted midnight s all replies t) (append-nil given) (rest t [] refl) in
      (it.0, it.1, (t, reached, counts, holds)))

-- if a database contains some content, so do its trees
trees_hold : (content : Content) (db : Database) → Holds version content db → TreesHold db.trees content
trees_hold content db holds = subst (λ (named : Schema). Holds version content (record { schema = named; trees = db.trees })) holds.is_office.schema holds

-- what was made is committed in an open connection, so the files contain it after its end
pub leaves_new : {D : Type 0} (g : Ghosts D) (stays : SeenMayStay g) (last : Files D) (midnight : Midnights) (settings : Settings) (made : Held (FileStore D g))
    → IsTrue (file_state made).is_open × ((at : Midnights) → Holds version (tables_of at (empty_state settings)) (file_state made).committed)
    → LeaveOnly g last (file_state made).may_leave → LeaveState g last midnight (empty_state settings)
leaves_new g stays last midnight settings made new left image may =
    let content = tables_of midnight (empty_state settings) in
    ∥∥₁_map (left image may) (λ it. (
      it.0,
      it.1,
      subst (λ (ts : Trees). TreesHold ts content) (sym (settled_at made.store stays it.0 new.0 it.2)) (trees_hold content (file_state made).committed (new.1 midnight)),
    ))

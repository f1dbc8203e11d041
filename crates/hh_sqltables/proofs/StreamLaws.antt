-- A connection that reads the rows of a query one after the other, and the state in which it began.
use Rattle.std.proofs.Common.{◌≡◌, false, ◌⊎◌, inl, inr, ◌∙◌, ◌++◌, List, [], ◌∷◌, ℕ, IsTrue, IfOk, Option, Some, None, Result, Ok, Err, arith, refl, sym, subst}
use Rattle.std.specs.Prelude.{option_map, ⊤}
use Rattle.sqlite_trees.specs.declared.store.Store.{Ghosts}
use Rattle.sqlite_trees.specs.Tree.{Trees}
use Rattle.sqlite_value.specs.Order.{Row}
use Rattle.sqlite_resolve.specs.declared.compiled.Compiled.{Compiled}
use Rattle.sqlite.specs.Clock.{timed}
use Rattle.sqlite.specs.Effect.{Database}
use Rattle.sqlite.specs.Given.{Advances, HasBegun}
use Rattle.sqlite.specs.Held.{Held, state}
use Rattle.sqlite.specs.Listing.{IsSourceOf, reads_listing, understood}
use Rattle.sqlite.specs.State.{Begins, CommitsShowing, Fails, HasCleanDisk, IsRolledBack, IsStatement, IsUnchanged, ShowsRows, Shown, State, Survives}
use Rattle.sqlite.specs.declared.error.Error.{Error}
use Rattle.sqlite.specs.Stream.{returned}
use Rattle.sqlite.proofs.Callers.{IsPlain, begun_plain, given_begin, unchanged_then}
use Rattle.sqlite.proofs.StateLemmas.{survives_then}
use Rattle.hh_keyed_rows.specs.Codecs.{Codec}
use Rattle.hh_keyed_rows.specs.KeyedRows.{entry_in}
use Rattle.hh_sqltables.specs.steps.Answers.{IsPlainOf, IsRead}
use Rattle.hh_sqltables.specs.steps.Streams.{HasTaken, IsBegun, OfPlain, TakesNext}
use Rattle.hh_sqltables.specs.Frames.{LeavesNoMore}
use Rattle.hh_sqltables.proofs.AnswerLaws.{left_by}
use Rattle.hh_sqltables.proofs.FrameLaws.{query_faults, query_leaves}
use Rattle.hh_sqltables.proofs.ManyLaws.{map_last}
use Rattle.hh_keyed_rows.proofs.QueryLaws.{clean_by, shown_open}

-- an open connection is unchanged from itself
pub unchanged_itself : (now : State) → IsTrue now.is_open → IsUnchanged now now
unchanged_itself now opened = (
  record { was_open = opened; is_open = opened; now_is = refl; committed_is = refl; mode = refl },
  record { changes = refl; last_rowid = refl },
  refl,
)

module _ (sql : List ℕ) (params : Row) (start mid : State) (same : IsUnchanged start mid) where
  abbrev statement_before : (c : Compiled) → IsStatement mid sql params c → IsStatement start sql params c
  statement_before c it = record {
    is = subst (λ (d : Database). understood d.schema sql ≡ Ok c) same.0.now_is it.is;
    whole = it.whole;
    given = it.given;
    now = it.now;
  }

  source_before : (db : Database) → IsSourceOf (reads_listing mid.now.schema sql) mid.now db → IsSourceOf (reads_listing start.now.schema sql) start.now db
  source_before db source = subst (λ (d : Database). IsSourceOf (reads_listing d.schema sql) d db) same.0.now_is source

  -- what begins the answer now began it at the start
  pub begins_before : (rows : List Row) → Begins sql params mid rows → Begins sql params start rows
  unfolding Begins
  begins_before rows h = (h.0, statement_before h.0 h.1, h.2, h.3, source_before h.3 h.4, h.5)

  -- what is answered now was to be answered at the start
  pub shown_before : (new : State) (rows : List Row) → IsPlain (understood mid.now.schema sql) → Shown sql params mid new rows → Shown sql params start new rows
  unfolding Shown
  shown_before new rows plain h =
      let none = (subst IsPlain h.1.is plain).0 in
      let full = timed params h.0.formats h.1.now in
      let it = subst (ShowsRows mid new sql h.0 full rows) none h.2 in
      (h.0, statement_before h.0 h.1, subst (ShowsRows start new sql h.0 full rows) (sym none) (it.0, source_before it.0 it.1, it.2, unchanged_then start mid new same it.3))

-- a connection that was unchanged since the start, and is then unchanged or rolled back
pub left_since : (start mid new : State) → IsUnchanged start mid → IsUnchanged mid new ⊎ IsRolledBack mid new → IsUnchanged start new ⊎ IsRolledBack start new
left_since start mid new same (inl kept) = inl (unchanged_then start mid new same kept)
left_since start mid new same (inr back) = inr (record {
  was_open = λ stands. same.0.was_open;
  undone = λ stands. let u = back.undone stands in (u.0 ∙ same.0.committed_is, u.1 ∙ same.0.committed_is);
  autocommit = back.autocommit;
  unmarked = back.unmarked;
  counts = record { changes = back.counts.changes ∙ same.1.changes; last_rowid = back.counts.last_rowid ∙ same.1.last_rowid };
})

-- a disk that has returned what was written had done so before
pub cleaner_before : (old new : State) (Commits : Trees → Type 0) → Survives old new Commits → HasCleanDisk new → HasCleanDisk old
cleaner_before old new Commits survived clean = omega (arith, survived.clean)

-- ---- one row after the other

module _ {S : Type 0} (g : Ghosts S) {K V : Type 0} (key : Codec K) (value : Codec V) (sql : List ℕ) (params : Row) (start mid new : Held S) (taken : List (K × V))
    (cleaner : HasCleanDisk (state g new) → HasCleanDisk (state g mid)) (before : HasTaken g key value sql params start mid taken) where
  -- rows with which the answer begins
  pub some_taken : IsPlainOf (state g start) sql → HasCleanDisk (state g new) → IsBegun key value sql params (state g start) taken
  some_taken plain clean =
      let was = before plain (cleaner clean) in
      inr (was.0, begins_before sql params (state g start) (state g mid) was.3 was.0 (given_begin g sql params mid was.0 was.1), was.2)

  -- the next row, if there is one, is read
  pub next_taken : {E : Type 0} (row : Option Row) (r : Result (Option (K × V)) E) → (HasCleanDisk (state g new) → Advances g mid new row)
      → (HasCleanDisk (state g new) → IsUnchanged (state g mid) (state g new)) → IfOk r (λ entry. option_map (entry_in key value) row ≡ option_map (λ e. Some e) entry)
      → TakesNext g key value sql params start new taken r
  next_taken (Some x) (Ok (Some e)) on same is = λ plain clean.
      let was = before plain (cleaner clean) in
      let entry : entry_in key value x ≡ Some e = cc is in (
        was.0 ++ x ∷ [],
        on clean sql params was.0 was.1,
        map_last (entry_in key value) was.0 x ∙ (λ i. was.2 i ++ entry i ∷ []) ∙ sym (map_last (λ (e : K × V). Some e) taken e),
        unchanged_then _ _ _ was.3 (same clean),
      )
  next_taken (Some x) (Ok None) on same is = absurd (let e = is in cc)
  next_taken None (Ok (Some e)) on same is = absurd (let e = is in cc)
  next_taken None (Ok None) on same is = λ plain clean.
      let was = before plain (cleaner clean) in
      let still = subst (λ (d : Database). IsPlain (understood d.schema sql)) (sym was.3.0.now_is) plain in
      ((was.0, shown_before sql params (state g start) (state g mid) was.3 (state g new) was.0 still (on clean sql params was.0 was.1), was.2), unchanged_then _ _ _ was.3 (same clean))
  next_taken row (Err fault) on same is = λ plain clean.
      let was = before plain (cleaner clean) in (some_taken plain clean, inl (unchanged_then _ _ _ was.3 (same clean)))

  -- no more rows are read
  pub none_taken : (HasCleanDisk (state g new) → IsUnchanged (state g mid) (state g new) ⊎ IsRolledBack (state g mid) (state g new))
      → IsPlainOf (state g start) sql → HasCleanDisk (state g new)
      → IsBegun key value sql params (state g start) taken × (IsUnchanged (state g start) (state g new) ⊎ IsRolledBack (state g start) (state g new))
  none_taken left plain clean =
      let was = before plain (cleaner clean) in (some_taken plain clean, left_since (state g start) (state g mid) (state g new) was.3 (left clean))

-- a call that fails leaves the connection as it was, or rolled back
pub kept_or_back : (old new : State) (too_big : Type 0) (e : Error) → Fails old new too_big e ⊎ IsUnchanged old new → IsUnchanged old new ⊎ IsRolledBack old new
kept_or_back old new too_big e (inl failed) = inr failed.3
kept_or_back old new too_big e (inr same) = inl same

-- ---- rows that are given to a taker

module _ {S : Type 0} (g : Ghosts S) {K V : Type 0} (key : Codec K) (value : Codec V) (sql : List ℕ) (params : Row) (start : Held S) where
  -- the query is being answered, and what it gave so far was taken
  pub record IsGiving (now : Held S) (IsTaken : List (K × V) → Type 0) : Type 0 where
    pub mode : start.in_transaction ≡ false → now.in_transaction ≡ false
    pub stood : IsTrue (state g now).is_open → IsTrue (state g start).is_open
    pub survives : Survives (state g start) (state g now) (CommitsShowing sql params (state g start))
    pub taken : List (K × V)
    pub read : HasTaken g key value sql params start now taken
    pub has : IsTaken taken

module _ {S : Type 0} (g : Ghosts S) (shut : (s : S) → (g.view s).is_clean ≡ false → (g.view s).is_open ≡ false) {K V : Type 0} (key : Codec K) (value : Codec V) (sql : List ℕ) (params : Row) (start : Held S) where
  pub clean_if : (last : Held S) → IsTrue (state g last).is_open → HasCleanDisk (state g last)
  clean_if last stands = clean_by _ _ (shut last.store) stands

  -- what is to be shown about the connection in the end
  abbrev pub Leaves : Held S → Type 0
  Leaves last =
      OfPlain (state g start) (state g last) sql ((state g start).now ≡ (state g start).committed → ((state g last).now ≡ (state g start).now) × ((state g last).committed ≡ (state g start).committed))

  abbrev pub CommitsNone : Held S → Type 0
  CommitsNone last = Survives (state g start) (state g last) (λ _. ⊤) × (⊤ → IsPlainOf (state g start) sql → LeavesNoMore (state g start) (state g last))

  abbrev pub AreAll : Held S → List (K × V) → Type 0
  AreAll last taken = OfPlain (state g start) (state g last) sql (IsRead key value sql params (state g start) (state g last) taken)

  abbrev pub AreSome : Held S → List (K × V) → Type 0
  AreSome last taken = OfPlain (state g start) (state g last) sql (IsBegun key value sql params (state g start) taken)

  -- the same, given what is known about the connection in the end
  pub left_by_last : (last : Held S) → (IsPlainOf (state g start) sql → HasCleanDisk (state g last) → IsUnchanged (state g start) (state g last) ⊎ IsRolledBack (state g start) (state g last))
      → Leaves last
  left_by_last last left stands plain settled = left_by (state g start) (state g last) (left plain (clean_if last stands)) stands settled

  pub commits_none : (last : Held S) → Survives (state g start) (state g last) (CommitsShowing sql params (state g start)) → CommitsNone last
  commits_none last survived = (query_faults sql params (state g start) (state g last) survived, query_leaves sql params (state g start) (state g last) survived)

  pub survives_on : (mid last : Held S) → Survives (state g start) (state g mid) (CommitsShowing sql params (state g start)) → Survives (state g mid) (state g last) (λ _. ⊥)
      → Survives (state g start) (state g last) (CommitsShowing sql params (state g start))
  survives_on mid last first later = survives_then (state g start) (state g mid) (state g last) _ _ _ (λ _ db may. may) (λ _ db none. absurd none) first later

  -- the query is answered from the start
  pub giving_begun : (now : Held S) (IsTaken : List (K × V) → Type 0) → (start.in_transaction ≡ false → now.in_transaction ≡ false)
      → (HasCleanDisk (state g now) → HasBegun g sql params start now) → Survives (state g start) (state g now) (CommitsShowing sql params (state g start)) → IsTaken []
      → IsGiving g key value sql params start now IsTaken
  giving_begun now IsTaken mode begun survived has = record {
    mode = mode;
    stood = λ stands. elim (begun (clean_if now stands)) [
      | inl h ↦ h.1.0.was_open
      | inr h ↦ shown_open sql params (state g start) (state g now) (returned now.reading) h.1
    ];
    survives = survived;
    taken = [];
    read = λ plain clean. let h = begun_plain g sql params start now plain (begun clean) in ([], h.0, refl, h.1);
    has = has;
  }

  module _ (mid : Held S) (IsTaken : List (K × V) → Type 0) (giving : IsGiving g key value sql params start mid IsTaken) (last : Held S)
      (mode : mid.in_transaction ≡ false → last.in_transaction ≡ false) (stood : IsTrue (state g last).is_open → IsTrue (state g mid).is_open) (later : Survives (state g mid) (state g last) (λ _. ⊥)) where
    -- one more row was taken
    pub giving_more : (entry : K × V) (IsTakenThen : List (K × V) → Type 0) → HasTaken g key value sql params start last (giving.taken ++ entry ∷ [])
        → IsTakenThen (giving.taken ++ entry ∷ []) → IsGiving g key value sql params start last IsTakenThen
    giving_more entry IsTakenThen read has = record {
      mode = λ first. mode (giving.mode first);
      stood = λ stands. giving.stood (stood stands);
      survives = survives_on mid last giving.survives later;
      taken = giving.taken ++ entry ∷ [];
      read = read;
      has = has;
    }

  -- rows that were taken begin the answer
  pub some_by : (mid last : Held S) (taken : List (K × V)) → (HasCleanDisk (state g last) → HasCleanDisk (state g mid)) → HasTaken g key value sql params start mid taken → AreSome last taken
  some_by mid last taken cleaner read stands plain = some_taken g key value sql params start mid last taken cleaner read plain (clean_if last stands)

  -- the connection is as it was while rows are given
  pub same_by : (last : Held S) (taken : List (K × V)) → HasTaken g key value sql params start last taken → Leaves last
  same_by last taken read = left_by_last last (λ plain clean. inl (read plain clean).3)

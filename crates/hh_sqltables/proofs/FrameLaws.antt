-- What calls leave, one after the other, and what a statement does by the facts of its table.
use Rattle.std.proofs.Common.{◌≡◌, ◌∙◌, IsTrue, ℕ, List, Ok, Result, Err, OnOk, arith, inl, inr, subst, sym}
use Rattle.std.specs.Prelude.{⊤, IsErrAnd}
use Rattle.sqlite_value.specs.Order.{Row}
use Rattle.sqlite_trees.specs.declared.store.Store.{Ghosts}
use Rattle.sqlite_schema.specs.declared.schema.Schema.{Schema}
use Rattle.sqlite.specs.Effect.{Database}
use Rattle.sqlite.specs.declared.transaction.Transaction.{Transaction}
use Rattle.sqlite.specs.Held.{state}
use Rattle.sqlite.specs.State.{CommitsShowing, HasCleanDisk, State, Survives}
use Rattle.sqlite.proofs.StateLemmas.{survives_then, survives_weaker}
use Rattle.sqlite.proofs.Callers.{never_commits}
use Rattle.hh_keyed_rows.specs.Codecs.{Codec}
use Rattle.hh_sqltables.specs.Frames.{IsSettledOf, LeavesNoMore, OfSettledOf, Reads, ReadsOfficeOf, ReadsSettledOf, WritesInside}
use Rattle.hh_sqltables.specs.Forms.{IsOfficeOf}
use Rattle.hh_sqltables.specs.steps.Answers.{IsPlainOf}

-- what holds of the codecs of a key and of a value holds of those of the table's form
pub by_form : {K V : Type 0} (P : Codec K → Codec V → Type 0) (form_key key : Codec K) (form_value value : Codec V)
    → form_key ≡ key → form_value ≡ value → P key value → P form_key form_value
by_form P form_key key form_value value keyed valued h = subst (λ c. P c form_value) (sym keyed) (subst (P key) (sym valued) h)

-- a call that leaves no more forgets no fault, so it commits nothing
pub commits_none : (old new : State) → Survives old new (λ _. ⊤) → LeavesNoMore old new → Survives old new (λ _. ⊥)
commits_none old new faults none = record {
  clean = faults.clean;
  shield = faults.shield;
  counts = faults.counts;
  limit = faults.limit;
  closes = faults.closes;
  crash = λ clean db may. inl (none clean db may);
}

-- a call that reads where `P` holds reads where `Q` does
pub reads_where : {X E : Type 0} {O P Q : Type 0} (old new : State) (r : Result X E) → (Q → P) → Reads O P old new r → Reads O Q old new r
reads_where old new r f h = record {
  stood = h.stood;
  left = λ stands q settled. h.left stands (f q) settled;
  outside = h.outside;
  stays = h.stays;
  honest = h.honest;
  faults = h.faults;
  crash = λ opened q. h.crash opened (f q);
}

-- a statement is a reading of a database with everything committed
pub settles : {X E : Type 0} (schema : Schema) (old new : State) (r : Result X E) → ReadsOfficeOf schema old new r → ReadsSettledOf schema old new r
settles schema old new r h = record {
  stood = h.stood;
  left = λ stands is settled. h.left stands is.0 settled;
  outside = h.outside;
  stays = λ opened. h.stays tt;
  honest = h.honest;
  faults = h.faults;
  crash = λ opened is. h.crash tt is.0;
}

on_any : {X E P : Type 0} (r : Result X E) → P → OnOk r P
on_any (Ok x) p = p
on_any (Err e) p = tt

on_none : {X E : Type 0} (P : Type 0) (Q : E → Type 0) (r : Result X E) → IsErrAnd r Q → OnOk r P
on_none P Q (Ok x) failed = absurd failed
on_none P Q (Err e) failed = tt

-- a reading is one if a failure is handed on
pub reads_failed : {X E Y F : Type 0} {O P : Type 0} (Q : F → Type 0) (old new : State) (s : Result X E) (r : Result Y F) → IsErrAnd r Q → Reads O P old new s → Reads O P old new r
reads_failed Q old new s r failed h = record {
  stood = h.stood;
  left = h.left;
  outside = h.outside;
  stays = λ opened clean. on_none _ Q r failed;
  honest = h.honest;
  faults = h.faults;
  crash = h.crash;
}

-- a reading that was answered is one whatever is made of its answer
pub reads_as : {X E Y F : Type 0} {O P : Type 0} (old new : State) (x : X) (r : Result Y F) → Reads {X = X} {E = E} O P old new (Ok x) → Reads O P old new r
reads_as old new x r h = record {
  stood = h.stood;
  left = h.left;
  outside = h.outside;
  stays = λ opened clean. on_any r (h.stays opened clean);
  honest = h.honest;
  faults = h.faults;
  crash = h.crash;
}

-- one reading after another that was answered
module _ (schema : Schema) (old mid new : State) where
  -- what the second is called on is what the first was called on
  pub still_settled : (IsTrue mid.is_open → IsSettledOf schema old → old.now ≡ old.committed → (mid.now ≡ old.now) × (mid.committed ≡ old.committed)) → IsTrue mid.is_open → IsSettledOf schema old → IsSettledOf schema mid
  still_settled left stands is = let kept = left stands is is.1 in (subst (IsOfficeOf schema) (sym kept.0) is.0, kept.0 ∙ is.1 ∙ sym kept.1)

  pub reads_then : {X E Y F : Type 0} (x : X) (r : Result Y F) → ReadsSettledOf {X = X} {E = E} schema old mid (Ok x) → ReadsSettledOf schema mid new r → ReadsSettledOf schema old new r
  reads_then x r one two = record {
    stood = λ stands. one.stood (two.stood stands);
    left = λ stands is settled.
        let up = two.stood stands in
        let first = one.left up is settled in
        let still = still_settled one.left up is in
        let last = two.left stands still still.1 in
        (last.0 ∙ first.0, last.1 ∙ first.1);
    outside = λ before. two.outside (one.outside before);
    stays = λ opened clean. two.stays (one.stays opened (two.honest clean)) clean;
    honest = λ clean. one.honest (two.honest clean);
    faults = survives_then old mid new _ _ _ (λ _ db p. tt) (λ _ db p. tt) one.faults two.faults;
    crash = λ opened is clean trees may.
        let up = one.stays opened (two.honest clean) in
        one.crash opened is (two.honest clean) trees (two.crash up (still_settled one.left up is) clean trees may);
  }

  -- what the first finds holds for both
  pub found_first : (IsTrue new.is_open → IsTrue mid.is_open) → (P : Type 0) → OfSettledOf schema old mid P → OfSettledOf schema old new P
  found_first stood P found stands is settled = found (stood stands) is settled

  -- what the second finds in the database was in the database before the first
  pub found_last : {X E Y F : Type 0} (x : X) (r : Result Y F) → ReadsSettledOf {X = X} {E = E} schema old mid (Ok x) → ReadsSettledOf schema mid new r → (P : Database → Type 0) → OfSettledOf schema mid new (P mid.now) → OfSettledOf schema old new (P old.now)
  found_last x r one two P found stands is settled =
      let up = two.stood stands in
      let still = still_settled one.left up (is, settled) in
      subst P (one.left up (is, settled) settled).0 (found stands still.0 still.1)

-- a query forgets no fault, and where it is plain a crash leaves no more
pub query_faults : (sql : List ℕ) (params : Row) (old new : State) → Survives old new (CommitsShowing sql params old) → Survives old new (λ _. ⊤)
query_faults sql params old new = survives_weaker old new _ _ (λ clean db shown. tt)

pub query_leaves : (sql : List ℕ) (params : Row) (old new : State) → Survives old new (CommitsShowing sql params old) → ⊤ → IsPlainOf old sql → LeavesNoMore old new
query_leaves sql params old new survived opened plain clean trees may = elim (survived.crash clean trees may) [
  | inl before ↦ before
  | inr shown ↦ absurd (never_commits sql params old trees plain shown)
]

-- one call after another in a transaction
pub writes_then : {S X E Y F : Type 0} (g : Ghosts S) (old mid new : Transaction S) (x : X) (r : Result Y F) → WritesInside {S = S} {X = X} {E = E} g old mid (Ok x) → WritesInside g mid new r → WritesInside g old new r
writes_then g old mid new x r one two =
    let before : HasCleanDisk (state g new.conn.now) → HasCleanDisk (state g mid.conn.now) = λ clean. omega (arith, two.survives.clean, clean) in
    record {
      same_reference = two.same_reference ∙ one.same_reference;
      inside = λ clean was. two.inside clean (one.inside (before clean) was);
      kept = λ clean was stands. let last = two.kept clean (one.inside (before clean) was) stands in let first = one.kept (before clean) was last.0 in (first.0, last.1 ∙ first.1);
      survives = survives_then (state g old.conn.now) (state g mid.conn.now) (state g new.conn.now) _ _ _ (λ _ db none. none) (λ _ db none. none) one.survives two.survives;
    }

-- a call that was answered in a transaction is one whatever is made of its answer
pub writes_as : {S X E Y F : Type 0} (g : Ghosts S) (old new : Transaction S) (x : X) (r : Result Y F) → WritesInside {S = S} {X = X} {E = E} g old new (Ok x) → WritesInside g old new r
writes_as g old new x r h = record {
  same_reference = h.same_reference;
  inside = λ clean was. on_any r (h.inside clean was);
  kept = h.kept;
  survives = h.survives;
}

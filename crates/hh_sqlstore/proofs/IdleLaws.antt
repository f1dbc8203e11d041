-- Tables whose connection has read something, and their content.
use Rattle.std.proofs.Common.{◌≡◌, ◌∙◌, ℕ, ℤ, true, false, IsTrue, Option, Some, ap, subst, sym}
use Rattle.std.specs.Prelude.{IfSome}
use Rattle.std.specs.Global.{Vec}
use Rattle.sqlite_trees.specs.declared.store.Store.{Ghosts}
use Rattle.sqlite_trees.specs.Tree.{Trees}
use Rattle.sqlite.specs.Effect.{Database}
use Rattle.sqlite.specs.Held.{Held, state}
use Rattle.sqlite.specs.State.{State}
use Rattle.hh_states.specs.declared.run_keys.PostingKey.{PostingKey}
use Rattle.hh_keyed_rows.specs.Values.{version}
use Rattle.hh_sqlrows.specs.Contents.{mark_in, stored_content}
use Rattle.hh_sqlrows.specs.Forms.{rows_under_keys}
use Rattle.hh_sqlrows.specs.Office.{IsOffice}
use Rattle.hh_sqlrows.specs.OfficeTables.{postings}
use Rattle.hh_sqlparts.specs.steps.Readings.{SelectsOnly}
use Rattle.hh_sqlrows.specs.Reads.{OfSettled}
use Rattle.hh_sqlrows.specs.Holds.{Holds}
use Rattle.hh_sqlstore.specs.Stores.{ArePosted, IsIdle, Stored, content_in}

module _ {S : Type 0} (g : Ghosts S) (t : Stored S) {posted : Option (Vec (PostingKey × ℤ))} (idle : IsIdle g t posted) (connection : Held S) (count : ℕ) (reading : SelectsOnly (state g t.connection) (state g connection)) where
  abbrev after : Stored S
  after = record { connection = connection; settings = t.settings; refusals = count }

  abbrev was : State
  was = state g t.connection

  abbrev is : State
  is = state g connection

  office : IsTrue is.is_open → IsOffice was.now
  office stands = let stood = reading.stood stands in subst IsOffice (sym (idle.settled stood)) (idle.holds stood).is_office

  left : IsTrue is.is_open → (is.now ≡ was.now) × (is.committed ≡ was.committed)
  left stands = reading.left stands (office stands) (idle.settled (reading.stood stands))

  -- the content is as it was
  pub same_content : IsTrue is.is_open → content_in g after ≡ content_in g t
  same_content stands = ap (λ (db : Database). stored_content t.settings db.trees) (left stands).1

  -- what held for the database as it was holds for the last commit
  pub of_committed : (P : Trees → Type 0) → OfSettled was is (P was.now.trees) → IsTrue is.is_open → P was.committed.trees
  of_committed P answer stands =
      let settled = idle.settled (reading.stood stands) in
      subst (λ (db : Database). P db.trees) settled (answer stands (office stands) settled)

  -- if the postings in memory were all of them, they still are
  same_posted : (kept : Option (Vec (PostingKey × ℤ))) → OfSettled was is (ArePosted was kept) → ArePosted is kept
  same_posted kept all stands =
      let stood = reading.stood stands in
      subst (λ (db : Database). IfSome kept (λ rows. rows.items ≡ rows_under_keys postings db.trees)) (sym (left stands).0) (all stands (office stands) (idle.settled stood) stood)

  -- no transaction is under way afterwards, as before, and these postings are in memory
  pub idle_with : (kept : Option (Vec (PostingKey × ℤ))) → OfSettled was is (ArePosted was kept) → connection.in_transaction ≡ false → IsIdle g after kept
  idle_with kept all mode = record {
    autocommit = mode;
    settled = λ stands. (left stands).0 ∙ idle.settled (reading.stood stands) ∙ sym (left stands).1;
    holds = λ stands.
        subst (λ (db : Database). Holds version (stored_content t.settings db.trees) db) (sym (left stands).1) (idle.holds (reading.stood stands));
    marked = λ stands. subst (λ (db : Database). mark_in db.trees ≡ Some true) (sym (left stands).1) (idle.marked (reading.stood stands));
    at_hand = same_posted kept all;
  }

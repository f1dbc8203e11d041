-- One reading of an office after the other, and what holds for both if one of them finds it.
use Rattle.std.proofs.Common.{◌≡◌, ◌∙◌, IsTrue, Result, sym, subst}
use Rattle.sqlite.specs.Effect.{Database}
use Rattle.sqlite.specs.State.{State}
use Rattle.hh_sqlrows.specs.Office.{IsOffice}
use Rattle.hh_sqlrows.specs.Reads.{OfSettled, ReadsOffice, ReadsSettled}
use Rattle.hh_sqlparts.specs.steps.Readings.{SelectsOnly}

-- readings select only
pub only : {X E : Type 0} (old new : State) (r : Result X E) → ReadsSettled old new r → SelectsOnly old new
only old new r h = record { stood = h.stood; left = λ up is settled. h.left up (is, settled) settled }

pub only_one : {X E : Type 0} (old new : State) (r : Result X E) → ReadsOffice old new r → SelectsOnly old new
only_one old new r h = record { stood = h.stood; left = λ up is settled. h.left up is settled }

module _ (old mid new : State) (first : SelectsOnly old mid) (last : SelectsOnly mid new) where
  module _ (stands : IsTrue new.is_open) (is : IsOffice old.now) (settled : old.now ≡ old.committed) where
    -- what the database is between the two is what it was before
    pub between : (mid.now ≡ old.now) × (mid.committed ≡ old.committed)
    between = first.left (last.stood stands) is settled

    pub is_office_between : IsOffice mid.now
    is_office_between = subst IsOffice (sym between.0) is

    pub settled_between : mid.now ≡ mid.committed
    settled_between = between.0 ∙ settled ∙ sym between.1

  pub reading_then : SelectsOnly old new
  reading_then = record {
    stood = λ stands. first.stood (last.stood stands);
    left = λ stands is settled.
        let kept = last.left stands (is_office_between stands is settled) (settled_between stands is settled) in
        let here = between stands is settled in
        (kept.0 ∙ here.0, kept.1 ∙ here.1);
  }

  -- what the first finds holds for both
  pub found_first : (P : Type 0) → OfSettled old mid P → OfSettled old new P
  found_first P found stands is settled = found (last.stood stands) is settled

  -- what the last finds in the database was in the database before the first
  pub found_last : (P : Database → Type 0) → OfSettled mid new (P mid.now) → OfSettled old new (P old.now)
  found_last P found stands is settled =
      subst P (between stands is settled).0 (found stands (is_office_between stands is settled) (settled_between stands is settled))

-- what one reading finds and what the next finds hold for both readings
pub found_both : (old mid new : State) → SelectsOnly old mid → SelectsOnly mid new → (P Q : Database → Type 0) → OfSettled old mid (P old.now) → OfSettled mid new (Q mid.now)
    → OfSettled old new (P old.now × Q old.now)
found_both old mid new first last P Q one two stands office settled =
    (found_first old mid new first last (P old.now) one stands office settled, found_last old mid new first last Q two stands office settled)

-- What a query leaves of a connection, and what its rows are read as.
use Rattle.std.proofs.Common.{◌≡◌, ◌⊎◌, inl, inr, ◌∙◌, ◌++◌, List, [], ◌∷◌, map, Some, None, Option, Ok, Err, Result, IfOk, OnOk, IsTrue, Vec, sym, subst}
use Rattle.std.specs.Prelude.{IsErrAnd}
use Rattle.std.specs.declared.alloc.Global.{Global}
use Rattle.sqlite_value.specs.Order.{Row}
use Rattle.sqlite_resolve.specs.declared.compiled.Compiled.{Compiled}
use Rattle.sqlite_schema.specs.declared.command.Returning.{Returning}
use Rattle.sqlite.specs.Clock.{timed}
use Rattle.sqlite.specs.State.{State, Shown, ShowsRows, IsUnchanged, IsRolledBack}
use Rattle.hh_keyed_rows.specs.Codecs.{Codec}
use Rattle.hh_keyed_rows.specs.KeyedRows.{entry_in}
use Rattle.hh_devices.specs.DeviceChanges.{DeviceChange}
use Rattle.hh_reports.specs.Output.{CountsFault}
use Rattle.hh_reports.specs.declared.fault.ReportFault.{ReportFault}
use Rattle.hh_reports.specs.declared.fault.ReportFault.TheVariants.{Memory, Write}
use Rattle.hh_keyed_rows.specs.output_fault.OutputFault.{OutputFault}
use Rattle.hh_keyed_rows.specs.Outputs.{CountsOutput}
use Rattle.hh_keyed_rows.specs.StoreFaults.{output_fault}
use Rattle.hh_sqltables.specs.Giving.{GivesSo, TakesRow}
use Rattle.hh_sqltables.specs.steps.Answers.{IsRead}

module _ (sql : List _) (params : Row) (old new : State) where
  stands_by : (c : Compiled) (full : Row) (rows : List Row) (r : Option Returning) → ShowsRows old new sql c full rows r → IsTrue new.is_open
  stands_by c full rows None h = h.3.0.is_open
  stands_by c full rows (Some what) h = h.1.shown.is_open

  shown_stands : (rows : List Row) → Shown sql params old new rows → IsTrue new.is_open
  unfolding Shown
  shown_stands rows h = stands_by h.0 (timed params h.0.formats h.1.now) rows h.0.returning h.2

  pub stays_result : {X E : Type 0} (rows : List Row) (r : Result X E) → Shown sql params old new rows → OnOk r (IsTrue new.is_open)
  stays_result rows (Ok x) h = shown_stands rows h
  stays_result rows (Err e) h = tt

  pub read_result : {K V E : Type 0} (key : Codec K) (value : Codec V) (rows : List Row) (r : Result (Vec (K × V) Global) E) → Shown sql params old new rows
      → IfOk r (λ found. map (entry_in key value) rows ≡ map Some found.items) → IfOk r (λ found. IsRead key value sql params old new found.items)
  read_result key value rows (Ok found) h read = (rows, h, read)
  read_result key value rows (Err e) h read = tt

-- a connection that is open, whatever was answered
pub open_result : {X E : Type 0} (new : State) (r : Result X E) → IsTrue new.is_open → OnOk r (IsTrue new.is_open)
open_result new (Ok x) stands = stands
open_result new (Err e) stands = tt

pub left_by : (old new : State) → IsUnchanged old new ⊎ IsRolledBack old new → IsTrue new.is_open → old.now ≡ old.committed → (new.now ≡ old.now) × (new.committed ≡ old.committed)
left_by old new (inl same) stands settled = (same.0.now_is, same.0.committed_is)
left_by old new (inr back) stands settled = let u = back.undone stands in (u.0 ∙ sym settled, u.1)

-- rows that were given to a taker until it stopped for a fault, which is passed on
module _ {R : Type 0} (Has : List R → Type 0) (Stopped : OutputFault → List R → Type 0) (AreAll AreSome : List R → Type 0) where
  pub gives_stopped : {A : Type 0} (r : Result A OutputFault) (fault : OutputFault) → IsErrAnd r (λ e. e ≡ fault) → (taken : List R) → Stopped fault taken → AreSome taken
      → GivesSo Has Stopped AreAll AreSome r
  gives_stopped (Ok x) fault is taken stopped some = absurd is
  gives_stopped (Err e) fault is taken stopped some = (taken, subst (λ f. Stopped f taken) (sym is) stopped, some)

  -- it stopped after a row or before it
  pub gives_stopped_at : {A : Type 0} (r : Result A OutputFault) (fault : OutputFault) → IsErrAnd r (λ e. e ≡ fault) → (taken : List R) (row : R)
      → Stopped fault taken ⊎ Stopped fault (taken ++ row ∷ []) → AreSome taken → AreSome (taken ++ row ∷ []) → GivesSo Has Stopped AreAll AreSome r
  gives_stopped_at r fault is taken row (inl before) some more = gives_stopped r fault is taken before some
  gives_stopped_at r fault is taken row (inr behind) some more = gives_stopped r fault is (taken ++ row ∷ []) behind more

-- a row is not taken, and what was written is told with it
pub takes_stopped : {R A : Type 0} (Has : List R → Type 0) (Stopped : OutputFault → List R → Type 0) (rows : List R) (row : R) (r : Result A OutputFault) (fault : OutputFault)
    → IsErrAnd r (λ e. e ≡ fault) → Stopped fault (rows ++ row ∷ []) → TakesRow Has Stopped rows row r
takes_stopped Has Stopped rows row (Ok x) fault is stopped = absurd is
takes_stopped Has Stopped rows row (Err e) fault is stopped = inr (subst (λ f. Stopped f (rows ++ row ∷ [])) (sym is) stopped)

-- the fault of a writer is told as one of the tables
pub counted_alike : (device : DeviceChange) (fault : ReportFault) → CountsFault device fault → CountsOutput device (output_fault fault)
counted_alike device Memory counts = counts
counted_alike device Write counts = counts

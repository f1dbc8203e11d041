use Rattle.std.proofs.Common.{◌≡◌, ◌∙◌, List, ℕ, None, Ok, Err, IfErr, Result, refl, sym}
use Rattle.std.proofs.lemmas.Option.{none-some}
use Rattle.std.specs.Result.{IsErrAnd}
use Rattle.matchit.proofs.OnLiterals.{matchit_on_literals}
use Rattle.matchit.specs.Router.{Refused, RouteOf, nearest}
use Rattle.matchit.specs.Rows.{RowsOf}
use Rattle.matchit.specs.declared.error.InsertError.{InsertError}
use Rattle.matchit.specs.declared.error.InsertError.TheVariants.{Conflict, InvalidCatchAll, InvalidParam, InvalidParamSegment, OutOfMemory}
use Rattle.hh_wire.specs.steps.RouteRows.{pattern_of}
use Rattle.hh_wire.specs.declared.router.Route.{Route}
use Rattle.hh_wire.specs.declared.router.Route.TheVariants as route
use Rattle.hh_wire.proofs.router.build_router.Goals as goal

-- if no row conflicts with a pattern, only memory can be refused
memory_alone : (p : List ℕ) (rs : RowsOf (RouteOf Route)) (e : InsertError) → nearest p rs ≡ None → Refused p rs e → e ≡ OutOfMemory
memory_alone p rs OutOfMemory none why = refl
memory_alone p rs (Conflict with) none why = absurd (none-some why.0 (sym none ∙ why.1))
memory_alone p rs InvalidParamSegment none why = absurd why
memory_alone p rs InvalidParam none why = absurd why
memory_alone p rs InvalidCatchAll none why = absurd why

passed_on : {A : Type 0} (result : Result A InsertError) (e : InsertError) → IsErrAnd result (λ error. error ≡ e) → e ≡ OutOfMemory → IfErr result (λ error. error ≡ OutOfMemory)
passed_on (Ok x) e is memory = tt
passed_on (Err error) e is memory = is ∙ memory

pub returns-in_err-insert-clause-memory : goal.returns-in_err-insert-clause-memory
unfolding matchit_on_literals
returns-in_err-insert-clause-memory c =
    let error = c.in_err-insert.field-0.0 in
    let from = c.from_residual in
    let known = c.new-router.result in
    let none : nearest (pattern_of route.Files) known ≡ None = rw (c.new-router.ensures) (refl {a = None}) in
    passed_on from.result error from.ensures.1 (memory_alone (pattern_of route.Files) known error none c.in_err-insert.ensures.1)

pub returns-in_err-insert-2-clause-memory : goal.returns-in_err-insert-2-clause-memory
unfolding matchit_on_literals
returns-in_err-insert-2-clause-memory c =
    let error = c.in_err-insert-2.field-0.0 in
    let from = c.from_residual-in_err-insert-2 in
    let known = c.insert.new.self in
    let none : nearest (pattern_of route.Runs) known ≡ None = rw (c.in_ok-insert.ensures.1, c.new-router.ensures) (refl {a = None}) in
    passed_on from.result error from.ensures.1 (memory_alone (pattern_of route.Runs) known error none c.in_err-insert-2.ensures.1)

pub returns-in_err-insert-3-clause-memory : goal.returns-in_err-insert-3-clause-memory
unfolding matchit_on_literals
returns-in_err-insert-3-clause-memory c =
    let error = c.in_err-insert-3.field-0.0 in
    let from = c.from_residual-in_err-insert-3 in
    let known = c.insert-2.new.self in
    let none : nearest (pattern_of route.Accounts) known ≡ None = rw (c.in_ok-insert-2.ensures.1, c.in_ok-insert.ensures.1, c.new-router.ensures) (refl {a = None}) in
    passed_on from.result error from.ensures.1 (memory_alone (pattern_of route.Accounts) known error none c.in_err-insert-3.ensures.1)

pub returns-in_err-insert-4-clause-memory : goal.returns-in_err-insert-4-clause-memory
unfolding matchit_on_literals
returns-in_err-insert-4-clause-memory c =
    let error = c.in_err-insert-4.field-0.0 in
    let from = c.from_residual-in_err-insert-4 in
    let known = c.insert-3.new.self in
    let none : nearest (pattern_of route.Balances) known ≡ None = rw (c.in_ok-insert-3.ensures.1, c.in_ok-insert-2.ensures.1, c.in_ok-insert.ensures.1, c.new-router.ensures) (refl {a = None}) in
    passed_on from.result error from.ensures.1 (memory_alone (pattern_of route.Balances) known error none c.in_err-insert-4.ensures.1)

pub returns-in_err-insert-5-clause-memory : goal.returns-in_err-insert-5-clause-memory
unfolding matchit_on_literals
returns-in_err-insert-5-clause-memory c =
    let error = c.in_err-insert-5.field-0.0 in
    let from = c.from_residual-in_err-insert-5 in
    let known = c.insert-4.new.self in
    let none : nearest (pattern_of route.Contracts) known ≡ None = rw (c.in_ok-insert-4.ensures.1, c.in_ok-insert-3.ensures.1, c.in_ok-insert-2.ensures.1, c.in_ok-insert.ensures.1, c.new-router.ensures) (refl {a = None}) in
    passed_on from.result error from.ensures.1 (memory_alone (pattern_of route.Contracts) known error none c.in_err-insert-5.ensures.1)

pub returns-in_err-insert-6-clause-memory : goal.returns-in_err-insert-6-clause-memory
unfolding matchit_on_literals
returns-in_err-insert-6-clause-memory c =
    let error = c.in_err-insert-6.field-0.0 in
    let from = c.from_residual-in_err-insert-6 in
    let known = c.insert-5.new.self in
    let none : nearest (pattern_of route.RunsOfDate) known ≡ None = rw (c.in_ok-insert-5.ensures.1, c.in_ok-insert-4.ensures.1, c.in_ok-insert-3.ensures.1, c.in_ok-insert-2.ensures.1, c.in_ok-insert.ensures.1, c.new-router.ensures) (refl {a = None}) in
    passed_on from.result error from.ensures.1 (memory_alone (pattern_of route.RunsOfDate) known error none c.in_err-insert-6.ensures.1)

pub returns-clause-rows : goal.returns-clause-rows
unfolding matchit_on_literals
returns-clause-rows c =
    let a = c.in_ok-insert.ensures in
    let b = c.in_ok-insert-2.ensures in
    let d = c.in_ok-insert-3.ensures in
    let e = c.in_ok-insert-4.ensures in
    let f = c.in_ok-insert-5.ensures in
    let h = c.in_ok-insert-6.ensures in
    rw (h.1, f.1, e.1, d.1, b.1, a.1, c.new-router.ensures)

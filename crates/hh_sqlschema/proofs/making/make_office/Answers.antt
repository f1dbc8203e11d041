use Rattle.std.proofs.Common.{◌≡◌, ◌∙◌, true, refl, rules, subst, sym}
use Rattle.sqlite.specs.Held.{state}
use Rattle.sqlite.specs.State.{Survives}
use Rattle.hh_sqlrows.specs.Making.{IsMadeUpTo}
use Rattle.hh_sqlrows.specs.OfficeSchema.{nothing}
use Rattle.hh_sqlrows.specs.Holds.{IsNewOffice}
use Rattle.hh_sqlrows.specs.Leaving.{MayStand}
use Rattle.hh_sqlrows.proofs.CommitLaws.{survives_making}
use Rattle.hh_sqlschema.proofs.NewLaws.{none_made}
use Rattle.hh_sqlschema.proofs.making.make_office.Goals as goal

pub returns-in-Err-clause-crash : goal.returns-in-Err-clause-crash
returns-in-Err-clause-crash g c stands =
    let old = state g.S.Store c.args.connection.now in
    let begun = state g.S.Store (record c.args.connection.now { in_transaction = true }) in
    let mid = state g.S.Store c.write_new_office.new.tx.conn.now in
    let start = c.transaction-tx.ensures.begun in
    let schema : old.now.schema ≡ nothing = sym c.schema.ensures.value ∙ c.is_nothing.ensures.only (search rules) in
    let none : IsMadeUpTo 0 begun.now = none_made begun.now schema (c.schema.ensures.live stands).0 in
    let kept = c.args.settings.now in
    let made = survives_making g.S.Store (IsNewOffice kept) c.args.connection.now mid (state g.S.Store c.commit.new.self.0) (rw start at c.in_ok-write_new_office.ensures.frame.survives) (λ clean. (rw start at c.in_ok-write_new_office.ensures.writes) clean refl none) c.in-Err.ensures.survives in
    let same : c.commit.new.self.0 ≡ c.connection-2-1.given.0 = search rules in
    subst (λ h. Survives old (state g.S.Store h) (MayStand (IsNewOffice kept))) same made

use Rattle.std.proofs.Common.{refl, subst, sym}
use Rattle.std.specs.Prelude.{All, Contains}
use Rattle.hh_calc.proofs.ready.is_unit_listed.Goals as goal

pub returns-then-is_listed : goal.returns-then-is_listed
returns-then-is_listed c =
    let lead = subst (Contains c.args.accounts.now) c.lead.ensures (c.if-is_listed.ensures.0 refl) in
    let named = c.are_subsidiaries_listed.ensures in (
      λ e. (lead, subst (All (λ s. Contains c.args.accounts.now s.account)) c.subsidiaries.ensures (named.0 e)),
      λ all. named.1 (subst (All (λ s. Contains c.args.accounts.now s.account)) (sym c.subsidiaries.ensures) all.1),
    )

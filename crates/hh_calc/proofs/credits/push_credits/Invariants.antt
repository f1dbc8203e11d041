use Rattle.std.proofs.Common.{◌≡◌, ◌+◌, ◌*◌, ◌^◌, ◌≤◌, ◌++◌, map, take}
use Rattle.std.specs.Prelude.{◌-ℤ◌, unsigned_abs, All}
use Rattle.hh_share.specs.Totals.{total}
use Rattle.hh_calc.specs.Formulas.{loss_adjusted, subsidiary_credit}
use Rattle.hh_calc.proofs.CreditFacts.{credit_of}
use Rattle.hh_calc.proofs.credits.push_credits.Given as goal

-- the credits to the subsidiaries so far, and the rest
abbrev pub invariant-loop-subsidiary : goal.invariant-loop-subsidiary
invariant-loop-subsidiary l = record {
  credits : l.credits.items ≡ l.initial.credits.items ++ map (credit_of l.unit) (take l.subsidiary-index l.unit.subsidiaries);
  rest : l.rest ≡ loss_adjusted l.unit -ℤ total (subsidiary_credit l.unit) (take l.subsidiary-index l.unit.subsidiaries);
  small : All (λ s. unsigned_abs (subsidiary_credit l.unit s) ≤ 10 ^ 18) (take l.subsidiary-index l.unit.subsidiaries);
  size : unsigned_abs l.rest ≤ 2 * 10 ^ 14 + l.subsidiary-index * 10 ^ 15;
}

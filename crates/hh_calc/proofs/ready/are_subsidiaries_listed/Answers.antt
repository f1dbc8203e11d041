use Rattle.std.proofs.Common.{arith, refl}
use Rattle.std.specs.Prelude.{Contains}
use Rattle.hh_calc.proofs.ReadyLaws.{all_of, failed, one_more, passed}
use Rattle.hh_calc.proofs.SumLaws.{all_read}
use Rattle.hh_calc.proofs.ready.are_subsidiaries_listed.Goals as goal

pub returns-then-not-is_listed : goal.returns-then-not-is_listed
returns-then-not-is_listed c =
    failed _ (λ all. cc (c.if-not-is_listed.ensures.1 (all_read (λ s. Contains c.args.accounts.now s.account) c.args.subsidiaries.now c.loop-subsidiary.subsidiary-index c.subsidiary-item.result all (omega arith) c.subsidiary-item.is)))

pub loop-subsidiary-preserved : goal.loop-subsidiary-preserved
loop-subsidiary-preserved c =
    one_more (λ s. Contains c.args.accounts.now s.account) c.args.subsidiaries.now c.loop-subsidiary.subsidiary-index c.subsidiary-item.result (omega arith) c.subsidiary-item.is c.loop-subsidiary.invariant (c.if-not-is_listed.ensures.0 refl)

pub returns : goal.returns
returns c = passed _ (all_of (λ s. Contains c.args.accounts.now s.account) c.args.subsidiaries.now c.loop-subsidiary.subsidiary-index (omega arith) c.loop-subsidiary.invariant)

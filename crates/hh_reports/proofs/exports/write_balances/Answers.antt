use Rattle.std.proofs.Common.{◌≡◌, ◌+◌, [], ◌∷◌, ◌++◌, drop, refl, subst, take, arith}
use Rattle.std.specs.Prelude.{ℤ}
use Rattle.hh_names.specs.declared.account.Account.{Account}
use Rattle.std.proofs.lemmas.List.{take_all}
use Rattle.hh_devices.specs.DeviceChanges.{change}
use Rattle.hh_reports.specs.Nets.{sum_for}
use Rattle.hh_reports.specs.Writers.{HasBalances}
use Rattle.hh_reports.proofs.ListLaws.{next_place, whole}
use Rattle.hh_reports.proofs.OutputLaws.{told_out}
use Rattle.hh_reports.proofs.WriterLaws.{balances_stopped}
use Rattle.hh_reports.proofs.exports.write_balances.Goals as goal

pub returns-in_err-writer : goal.returns-in_err-writer
returns-in_err-writer g c =
    let fault = c.in_err-writer.field-0.0 in
    let balance : Account → ℤ = λ a. sum_for a c.args.postings.now in
    let now = c.in_err-writer.ensures c.args.postings.now c.in_ok-sums.ensures in
    record { writes = told_out _ _ fault _ c.from_residual-in_err-writer.ensures.1 (balances_stopped _ balance [] c.args.parties.now c.args.parties.now fault refl now) }

pub returns-in_err-party : goal.returns-in_err-party
returns-in_err-party g c =
    let parties = c.args.parties.now in
    let i = c.loop-party.party-index in
    let party = c.party-item.result in
    let fault = c.in_err-party.field-0.0 in
    let balance : Account → ℤ = λ a. sum_for a c.args.postings.now in
    let now = c.in_err-party.ensures c.args.out.now c.args.postings.now (take i parties) c.loop-party.invariant in
    record { writes = told_out _ _ fault _ c.from_residual-in_err-party.ensures.1 (balances_stopped _ balance (take i parties ++ party ∷ []) (drop (i + 1) parties) parties fault (whole parties i party c.loop-party-test.true c.party-item.is) now) }

pub loop-party-preserved : goal.loop-party-preserved
loop-party-preserved g c =
    let parties = c.args.parties.now in
    let i = c.loop-party.party-index in
    subst (λ given. HasBalances (change g.S.Sink.taken g.S.Sink.failures c.args.out.now c.party.new.out) c.party.new.self c.args.postings.now given)
    (next_place parties i c.party-item.result c.loop-party-test.true c.party-item.is)
    (c.in_ok-party.ensures c.args.out.now c.args.postings.now (take i parties) c.loop-party.invariant)

pub returns : goal.returns
returns g c =
    let parties = c.args.parties.now in
    let i = c.loop-party.party-index in
    let all : take i parties ≡ parties = take_all i parties (omega arith) in
    let given = subst (λ given. HasBalances (change g.S.Sink.taken g.S.Sink.failures c.args.out.now c.loop-party.out) c.loop-party.writer c.args.postings.now given) all c.loop-party.invariant in
    record { writes = c.finish.ensures c.args.out.now c.args.postings.now parties given }

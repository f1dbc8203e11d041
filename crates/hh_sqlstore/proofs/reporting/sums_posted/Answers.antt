use Rattle.std.proofs.Common.{[], ap, map, refl}
use Rattle.hh_devices.specs.DeviceChanges.{change}
use Rattle.hh_sqlrows.specs.Contents.{posted_amount}
use Rattle.hh_sqlstore.proofs.ReportLaws.{appends_none, told_on}
use Rattle.hh_sqlstore.proofs.reporting.sums_posted.Goals as goal

pub returns-in_err-give_all-clause-nothing : goal.returns-in_err-give_all-clause-nothing
returns-in_err-give_all-clause-nothing g c =
    let device = change g.O.Sink.taken g.O.Sink.failures c.args.out.now c.give_all.new.out in
    let given = c.in_err-give_all.ensures.gives c.args.out.now tt (c.new-sums.ensures, appends_none _, refl) in
    told_on device [] c.in_err-give_all.field-0.0 c.from_residual.result c.from_residual.ensures.1 (given.1.0, given.1.1)

pub returns-clause-sums : goal.returns-clause-sums
returns-clause-sums g c =
    let given = c.in_ok-give_all.ensures.gives c.args.out.now tt (c.new-sums.ensures, appends_none _, refl) in
    (map posted_amount given.0, given.1.0, λ stands is settled. ap (map posted_amount) (given.2 stands is))

pub returns-clause-nothing : goal.returns-clause-nothing
returns-clause-nothing g c =
    let given = c.in_ok-give_all.ensures.gives c.args.out.now tt (c.new-sums.ensures, appends_none _, refl) in
    (given.1.1, given.1.2)

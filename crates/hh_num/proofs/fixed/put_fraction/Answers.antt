use Rattle.std.proofs.Common.{arith}
use Rattle.std.proofs.lemmas.List.{drop_all}
use Rattle.hh_num.proofs.RoomFacts.{one_fits, point_put}
use Rattle.hh_num.proofs.fixed.put_fraction.Goals as goal

pub returns-then-decimals-eq0-clause-written : goal.returns-then-decimals-eq0-clause-written
returns-then-decimals-eq0-clause-written c = rw c.if-decimals-eq0.true (drop_all 40 c.args.room.now (omega arith))

pub write_digits-point-requires : goal.write_digits-point-requires
write_digits-point-requires c =
    let long = one_fits c.args.decimals c.args.number c.ten_to.result c.requires.few c.requires.below c.ten_to.ensures.value in
    (omega arith, omega arith)

pub bounds-room-point : goal.bounds-room-point
bounds-room-point c =
    let long = one_fits c.args.decimals c.args.number c.ten_to.result c.requires.few c.requires.below c.ten_to.ensures.value in
    omega (arith, c.write_digits-point.ensures.start)

pub returns-clause-start : goal.returns-clause-start
returns-clause-start c =
    let long = one_fits c.args.decimals c.args.number c.ten_to.result c.requires.few c.requires.below c.ten_to.ensures.value in
    let at = c.write_digits-point.ensures.start in
    (omega arith, omega arith)

pub returns-clause-written : goal.returns-clause-written
returns-clause-written c =
    point_put c.args.decimals c.args.number c.ten_to.result c.write_digits-point.result c.args.room.now c.write_digits-point.new.buf
    (omega arith) c.requires.few c.requires.below c.ten_to.ensures.value (omega arith) (omega arith) c.write_digits-point.ensures.start c.write_digits-point.ensures.written

use Rattle.std.proofs.Common.{◌/◌, ◌++◌, ◌≤◌, arith, sym, ap, ◌∙◌, take, take-take}
use Rattle.std.specs.Fmt.{decimal}
use Rattle.hh_num.specs.Fixed.{fraction_text}
use Rattle.hh_num.proofs.RoomFacts.{digits_fit, fraction_cut}
use Rattle.hh_num.proofs.fixed.put_size.Goals as goal

pub write_digits-requires : goal.write_digits-requires
write_digits-requires c =
    let long = digits_fit c.args.size c.ten_to-unit.result c.ranges.size.fits in
    let start = c.put_fraction-end.ensures.start in
    (omega arith, omega arith)

pub returns-clause-start : goal.returns-clause-start
returns-clause-start c =
    let long = digits_fit c.args.size c.ten_to-unit.result c.ranges.size.fits in
    let start = c.put_fraction-end.ensures.start in
    (omega (arith, c.write_digits.ensures.start), omega (arith, c.write_digits.ensures.start))

pub returns-clause-before : goal.returns-clause-before
returns-clause-before c =
    let at = c.write_digits.result in
    let end = c.put_fraction-end.result in
    let inside : at ≤ end = omega (arith, c.write_digits.ensures.start) in
    c.write_digits.ensures.before ∙ sym (take-take at end c.put_fraction-end.new.room inside)
    ∙ ap (take at) c.put_fraction-end.ensures.before ∙ take-take at end c.args.room.now inside

pub returns-clause-written : goal.returns-clause-written
returns-clause-written c =
    let unit = c.ten_to-unit.ensures.value in
    let fraction = c.put_fraction-end.ensures.written ∙ fraction_cut c.args.decimals c.args.size c.ten_to-unit.result unit in
    c.write_digits.ensures.written
    ∙ ap (λ text. decimal (c.args.size / c.ten_to-unit.result) ++ text) fraction
    ∙ ap (λ u. decimal (c.args.size / u) ++ fraction_text c.args.decimals c.args.size) unit

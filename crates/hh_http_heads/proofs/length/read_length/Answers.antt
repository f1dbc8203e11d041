use Rattle.std.proofs.Common.{◌≡◌, ◌∙◌, ◌+◌, ◌-◌, ◌*◌, get_or, true, arith}
use Rattle.std.specs.Char.{is_ascii_digit}
use Rattle.hh_http_heads.specs.Lengths.{saturated}
use Rattle.hh_http_heads.proofs.LengthLemmas.{length_more}
use Rattle.hh_http_heads.proofs.length.read_length.Goals as goal

pub loop-digit-preserved : goal.loop-digit-preserved
loop-digit-preserved c =
    let digit = get_or c.args.text.now c.loop-digit.digit-index 0 in
    let added : c.saturating_add-number.result ≡ saturated (saturated (c.loop-digit.number * 10) + (digit - 48)) =
    omega (arith, c.saturating_add-number.ensures, c.saturating_mul.ensures, c.from.ensures) in
    let is : is_ascii_digit digit ≡ true = cc in
    record {
      fits = omega arith;
      same = length_more c.loop-digit.number _ c.loop-digit.digit-index c.args.text.now c.loop-digit-test.true is added ∙ c.loop-digit.invariant.same;
    }

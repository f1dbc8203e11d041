use Rattle.std.proofs.Common.{◌≡◌, subst, sym, rules, w64}
use Rattle.std.specs.Prelude.{FitsSigned, IsAscii}
use Rattle.hh_num.specs.Fixed.{fixed_text}
use Rattle.hh_num.proofs.GrammarFacts.{IsFixed-fixed_text}
use Rattle.hh_http_replies.proofs.TextLemmas.{decimal_is_ascii}
use Rattle.hh_http_replies.proofs.member_text.number_text.Goals as goal

pub ascii_text-requires : goal.ascii_text-requires
ascii_text-requires g c =
    let decimals = g.Q.Quantity.decimals in
    let text = fixed_text decimals c.args.number in
    let same : c.write_fixed.new.out.items ≡ text = search rules in
    let fits : FitsSigned w64 c.args.number = search rules in
    subst IsAscii (sym same) (decimal_is_ascii decimals text c.args.number (IsFixed-fixed_text decimals c.args.number g.met.Q.Quantity.few_decimals fits))

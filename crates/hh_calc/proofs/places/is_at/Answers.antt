use Rattle.std.proofs.Common.{◌≡◌, ◌<◌, rules, arith, sym, ◌∙◌, length}
use Rattle.std.proofs.lemmas.List.{get_or_default}
use Rattle.std.proofs.lemmas.Map.Views.{tells_apart}
use Rattle.hh_names.proofs.AccountLaws.{exact_accounts}
use Rattle.hh_calc.proofs.places.is_at.Goals as goal

pub returns-clause-place : goal.returns-clause-place
returns-clause-place c is d =
    let inside : c.args.place < length c.args.accounts.now = search (rules, arith, c.if-place-accounts.false) in
    let same : c.index-accounts-place.result ≡ c.args.account.now = tells_apart exact_accounts c.index-accounts-place.result c.args.account.now (sym c.eq.ensures ∙ is) in
    get_or_default c.args.accounts.now c.args.place d c.index-accounts-place.result inside ∙ sym c.index-accounts-place.is ∙ same

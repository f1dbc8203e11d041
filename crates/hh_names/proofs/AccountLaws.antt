-- The order of accounts is total, and two accounts that it finds equal are the same.
use Rattle.std.proofs.Common.{ℕ, List, refl, ap}
use Rattle.std.specs.Cmp.{IsTotalOrder, nat_cmp_total, on_total, then_total}
use Rattle.std.specs.Cmp.Lexicographic.{nat_list_cmp_total}
use Rattle.std.proofs.lemmas.Map.Lookups.{CmpEqualImpliesEq, exact_bytes, exact_pairs}
use Rattle.hh_names.specs.declared.account.Side.{Side}
use Rattle.hh_names.specs.declared.account.Side.TheVariants.{Production, Consumption}
use Rattle.hh_names.specs.Accounts.{bytes_cmp, side_number, side_cmp, account_cmp}

pub bytes_total : IsTotalOrder bytes_cmp
bytes_total = nat_list_cmp_total

exact_sides : CmpEqualImpliesEq side_cmp
exact_sides Production Production e = refl
exact_sides Production Consumption e = cc
exact_sides Consumption Production e = cc
exact_sides Consumption Consumption e = refl

pub account_total : IsTotalOrder account_cmp
account_total = then_total (on_total (λ a. a.party) bytes_total) (on_total (λ a. a.side) (on_total side_number nat_cmp_total))

pub exact_accounts : CmpEqualImpliesEq account_cmp
exact_accounts a b h = ap (λ (p : List ℕ × Side). record { party = p.0; side = p.1 }) (exact_pairs bytes_cmp side_cmp exact_bytes exact_sides (a.party, a.side) (b.party, b.side) h)

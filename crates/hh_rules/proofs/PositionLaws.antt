-- The keys of positions, and what a contract row that replaces another moves.
use Rattle.std.proofs.Common.{◌≡◌, Bool, true, false, cond, refl, ap, ◌∙◌, arith, FitsSigned, to_z, of_z}
use Rattle.std.specs.Prelude.{ℤ, pos, neg_ℤ, ◌-ℤ◌, Option, Some, unwrap_or}
use Rattle.std.specs.Cmp.{IsTotalOrder, on_total, then_total}
use Rattle.std.specs.FinMap.{find, put}
use Rattle.std.specs.FinMap.Entries.{find-put}
use Rattle.std.specs.Ordering.{eq_by_cmp}
use Rattle.std.specs.Int.{w64}
use Rattle.std.proofs.lemmas.Int.{ints, to_z-of_z}
use Rattle.hh_tables.specs.Tables.{Table}
use Rattle.hh_names.proofs.AccountLaws.{account_total}
use Rattle.hh_rows.specs.declared.rows.ContractRow.{ContractRow}
use Rattle.hh_rows.specs.Ranges.{IsBetween}
use Rattle.hh_rows.proofs.KeyLaws.{settlement_period_total}
use Rattle.hh_rules.specs.Positions.{with_moved, position_in, position_key, position_key_cmp, position_plus, volume_of, with_replaced}
use Rattle.hh_rules.specs.declared.positions.Position.{Position}
use Rattle.hh_rules.specs.declared.positions.Position.TheVariants.{Known}
use Rattle.hh_rules.specs.declared.positions.PositionKey.{PositionKey}

pub position_key_total : IsTotalOrder position_key_cmp
position_key_total = then_total (on_total (λ k. k.at) settlement_period_total) (on_total (λ k. k.account) account_total)

abbrev is_same : PositionKey → PositionKey → Bool
is_same = eq_by_cmp position_key_cmp

unwrap_either : (b : Bool) (p q : Position) (o : Option Position) → unwrap_or (cond b (Some p) o) q ≡ cond b p (unwrap_or o q)
unwrap_either true p q o = refl
unwrap_either false p q o = refl

module _ (positions : Table PositionKey Position) where
  -- the position of a key, after one is put under a key
  pub in_put : (k q : PositionKey) (p : Position) → position_in (put position_key_cmp k p positions) q ≡ cond (is_same q k) p (position_in positions q)
  in_put k q p =
      ap (λ o. unwrap_or o (Known (pos 0))) (find-put position_key_cmp position_key_total q k p positions)
      ∙ unwrap_either (is_same q k) p (Known (pos 0)) (find position_key_cmp q positions)

-- the keys of the positions of a row's seller and of its buyer
abbrev seller_key : ContractRow → PositionKey
seller_key row = position_key row row.contract.counterparties.seller

abbrev buyer_key : ContractRow → PositionKey
buyer_key row = position_key row row.contract.counterparties.buyer

-- a number that fits a 64-bit word
abbrev word : ℤ → ℤ
word z = to_z w64 (of_z w64 z)

in_word : (z : ℤ) → IsBetween (neg_ℤ (pos 20_000_000)) (pos 20_000_000) z → word z ≡ z
in_word z (low, high) =
    let fits : FitsSigned w64 z = omega (arith, ints) in
    to_z-of_z w64 z fits

-- the change of a volume, added and taken off
module _ (volume taken units held : ℤ) (is : units ≡ volume) (held_is : held ≡ taken)
    (within : IsBetween (neg_ℤ (pos 10_000_000)) (pos 10_000_000) volume) (held_within : IsBetween (neg_ℤ (pos 10_000_000)) (pos 10_000_000) held) where
  grows : word (word units -ℤ word held) ≡ volume -ℤ taken
  grows =
      let known : word units ≡ volume = in_word units (omega (arith, ints, within.0, within.1), omega (arith, ints)) ∙ is in
      let before : word held ≡ taken = in_word held (omega (arith, ints), omega (arith, ints)) ∙ held_is in
      (λ i. word (known i -ℤ before i)) ∙ in_word (volume -ℤ taken) (omega (arith, ints), omega (arith, ints))

  falls : word (pos 0 -ℤ word (word units -ℤ word held)) ≡ pos 0 -ℤ (volume -ℤ taken)
  falls = ap (λ z. word (pos 0 -ℤ z)) grows ∙ in_word (pos 0 -ℤ (volume -ℤ taken)) (omega (arith, ints), omega (arith, ints))

-- Both positions are moved, and put.
module _ (old : Option ContractRow) (new : ContractRow) (positions : Table PositionKey Position) (seller buyer : PositionKey)
    (seller_is : seller ≡ seller_key new) (buyer_is : buyer ≡ buyer_key new) (before sold beside bought : Position) (units held : ℤ)
    (is : units ≡ new.contract.volume) (held_is : held ≡ volume_of old)
    (within : IsBetween (neg_ℤ (pos 10_000_000)) (pos 10_000_000) new.contract.volume) (held_within : IsBetween (neg_ℤ (pos 10_000_000)) (pos 10_000_000) held)
    (before_is : before ≡ position_in positions seller) (sold_is : sold ≡ position_plus (word (word units -ℤ word held)) before)
    (beside_is : beside ≡ position_in (put position_key_cmp seller sold positions) buyer)
    (bought_is : bought ≡ position_plus (word (pos 0 -ℤ word (word units -ℤ word held))) beside) where
  pub puts_moved : put position_key_cmp buyer bought (put position_key_cmp seller sold positions) ≡ with_replaced old new positions
  puts_moved =
      let more : ℤ = new.contract.volume -ℤ volume_of old in
      let grown = grows new.contract.volume (volume_of old) units held is held_is within held_within in
      let fallen = falls new.contract.volume (volume_of old) units held is held_is within held_within in
      let first : sold ≡ position_plus more (position_in positions (seller_key new)) =
      sold_is ∙ (λ i. position_plus (grown i) (before_is i)) ∙ ap (λ k. position_plus more (position_in positions k)) seller_is in
      let second : bought ≡ position_plus (pos 0 -ℤ more) (position_in (with_moved (seller_key new) more positions) (buyer_key new)) =
      bought_is ∙ (λ i. position_plus (fallen i) (beside_is i))
      ∙ (λ i. position_plus (pos 0 -ℤ more) (position_in (put position_key_cmp (seller_is i) (first i) positions) (buyer_is i))) in
      λ i. put position_key_cmp (buyer_is i) (second i) (put position_key_cmp (seller_is i) (first i) positions)

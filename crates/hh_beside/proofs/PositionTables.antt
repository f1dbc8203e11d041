-- Tables of positions with their net volumes, after one more volume and after one more contract row.
use Rattle.std.proofs.Common.{◌≡◌, refl, ap, sym, subst, ◌∙◌, Bool, true, false, cond, Option, Some, arith}
use Rattle.std.specs.Prelude.{ℤ, pos, ◌+ℤ◌, ◌-ℤ◌, ◌&&◌, is_some, unwrap_or, IsSome, T}
use Rattle.std.specs.Cmp.{Equal-is, eq_by_cmp_equiv}
use Rattle.std.specs.FinMap.{find, is_sorted}
use Rattle.std.specs.FinMap.Entries.{find-put, is_sorted-put}
use Rattle.std.specs.Ordering.{eq_by_cmp}
use Rattle.std.proofs.Math.IntN.{+ℤ_idr}
use Rattle.std.proofs.lemmas.Int.{ints}
use Rattle.hh_num.specs.Quantities.{net_volumes}
use Rattle.hh_num.specs.Ranges.{is_between}
use Rattle.hh_tables.specs.Tables.{Table}
use Rattle.hh_names.specs.declared.values.Counterparties.{Counterparties}
use Rattle.hh_names.specs.Accounts.{is_same_account}
use Rattle.hh_rows.specs.Keys.{settlement_period_cmp}
use Rattle.hh_rows.specs.declared.rows.ContractRow.{ContractRow}
use Rattle.hh_rows.specs.declared.settlement_period.SettlementPeriod.{SettlementPeriod}
use Rattle.hh_rules.specs.Positions.{with_moved, position_in, position_key, position_key_cmp, position_of, position_plus, volume_of, with_replaced}
use Rattle.hh_rules.specs.declared.positions.Position.{Position}
use Rattle.hh_rules.specs.declared.positions.Position.TheVariants.{Known, Lost}
use Rattle.hh_rules.specs.declared.positions.PositionKey.{PositionKey}
use Rattle.hh_calc.specs.Formulas.{net_kwh_of}
use Rattle.hh_beside.proofs.PositionKeys.{exact_position_keys, one_key, position_key_total}

-- a position is of a net volume: it is that volume, if it is known
abbrev pub IsOf : ℤ → Position → Type 0
IsOf net (Known n) = n ≡ net
IsOf net Lost = Unit {0}

-- the position of each key is of its net volume; a key without a position has the net volume 0
abbrev pub AreOf : (PositionKey → ℤ) → Table PositionKey Position → Type 0
AreOf nets positions = (key : PositionKey) → IsOf (nets key) (position_in positions key)

-- the position of a net volume is of that volume
position_of_is : (net : ℤ) → IsOf net (position_of net)
position_of_is net = elim (is_between net_volumes.least net_volumes.most net) as (λ b. IsOf net (cond b (Known net) Lost)) [ true ↦ refl | false ↦ tt ]

-- and still is after a volume is added
plus_is : (net volume : ℤ) (p : Position) → IsOf net p → IsOf (net +ℤ volume) (position_plus volume p)
plus_is net volume Lost h = tt
plus_is net volume (Known n) h = subst (λ z. IsOf (z +ℤ volume) (position_of (n +ℤ volume))) h (position_of_is (n +ℤ volume))

-- the value under one key, or otherwise the default
unwrap_or-cond : {X : Type 0} (b : Bool) (x d : X) (o : Option X) → unwrap_or (cond b (Some x) o) d ≡ cond b x (unwrap_or o d)
unwrap_or-cond true x d o = refl
unwrap_or-cond false x d o = refl

pub position_in-moved : (key : PositionKey) (volume : ℤ) (positions : Table PositionKey Position) (q : PositionKey)
    → position_in (with_moved key volume positions) q ≡ cond (eq_by_cmp position_key_cmp q key) (position_plus volume (position_in positions key)) (position_in positions q)
position_in-moved key volume positions q =
    let new : Position = position_plus volume (position_in positions key) in
    ap (λ o. unwrap_or o (Known (pos 0))) (find-put position_key_cmp position_key_total q key new positions)
    ∙ unwrap_or-cond (eq_by_cmp position_key_cmp q key) new (Known (pos 0)) (find position_key_cmp q positions)

-- positions stay of net volumes that are equal to theirs
pub same_nets : (nets others : PositionKey → ℤ) (positions : Table PositionKey Position) → ((q : PositionKey) → nets q ≡ others q) → AreOf nets positions → AreOf others positions
same_nets nets others positions same are q = subst (λ z. IsOf z (position_in positions q)) (same q) (are q)

-- adding a volume to one position adds it to its net volume
moved_are : (nets : PositionKey → ℤ) (key : PositionKey) (volume : ℤ) (positions : Table PositionKey Position) → AreOf nets positions
    → AreOf (λ q. nets q +ℤ cond (eq_by_cmp position_key_cmp q key) volume (pos 0)) (with_moved key volume positions)
moved_are nets key volume positions are q =
    subst (λ p. IsOf (nets q +ℤ cond (eq_by_cmp position_key_cmp q key) volume (pos 0)) p) (sym (position_in-moved key volume positions q))
    (elim (eq_by_cmp position_key_cmp q key) as (λ b. eq_by_cmp position_key_cmp q key ≡ b
    → IsOf (nets q +ℤ cond b volume (pos 0)) (cond b (position_plus volume (position_in positions key)) (position_in positions q))) [
      | true ↦ λ same.
          subst (λ k. IsOf (nets q +ℤ volume) (position_plus volume (position_in positions k)))
          (exact_position_keys q key ((Equal-is (position_key_cmp q key)).0 same))
          (plus_is (nets q) volume (position_in positions q) (are q))
      | false ↦ λ other. subst (λ z. IsOf z (position_in positions q)) (sym (+ℤ_idr (nets q))) (are q)
    ] refl)

-- taking off 0
pub less_nothing : (v : ℤ) → v -ℤ pos 0 ≡ v
less_nothing v = omega (arith, ints)

-- the part of a volume between two accounts in a Settlement Period that counts under a key
abbrev pub part : SettlementPeriod → Counterparties → ℤ → PositionKey → ℤ
part at c volume key =
    cond (eq_by_cmp settlement_period_cmp at key.at) (net_kwh_of key.account (record { counterparties = c; volume = volume })) (pos 0)

-- the part is what is added for the seller and taken off for the buyer
two_moves : (net volume : ℤ) (here sells buys : Bool) →
    (net +ℤ cond (here && sells) volume (pos 0)) +ℤ cond (here && buys) (pos 0 -ℤ volume) (pos 0)
    ≡ net +ℤ cond here (cond sells volume (pos 0) -ℤ cond buys volume (pos 0)) (pos 0)
two_moves net volume true true true = omega (arith, ints)
two_moves net volume true true false = omega (arith, ints)
two_moves net volume true false true = omega (arith, ints)
two_moves net volume true false false = omega (arith, ints)
two_moves net volume false sells buys = omega (arith, ints)

pub part_is : (at : SettlementPeriod) (c : Counterparties) (volume net : ℤ) (q : PositionKey) →
    (net +ℤ cond (eq_by_cmp position_key_cmp q (record { at = at; account = c.seller })) volume (pos 0))
    +ℤ cond (eq_by_cmp position_key_cmp q (record { at = at; account = c.buyer })) (pos 0 -ℤ volume) (pos 0)
    ≡ net +ℤ part at c volume q
part_is at c volume net q =
    (λ i. (net +ℤ cond (one_key (record { at = at; account = c.seller }) q i) volume (pos 0))
    +ℤ cond (one_key (record { at = at; account = c.buyer }) q i) (pos 0 -ℤ volume) (pos 0))
    ∙ two_moves net volume (eq_by_cmp settlement_period_cmp at q.at) (is_same_account c.seller q.account) (is_same_account c.buyer q.account)

-- the difference of the parts of two volumes is the part of their difference
pub part-minus : (at : SettlementPeriod) (c : Counterparties) (v w : ℤ) (q : PositionKey) → part at c (v -ℤ w) q ≡ part at c v q -ℤ part at c w q
part-minus at c v w q = by_cases (eq_by_cmp settlement_period_cmp at q.at) (is_same_account c.seller q.account) (is_same_account c.buyer q.account)
  where
    by_cases : (here sells buys : Bool) →
        cond here (cond sells (v -ℤ w) (pos 0) -ℤ cond buys (v -ℤ w) (pos 0)) (pos 0)
        ≡ cond here (cond sells v (pos 0) -ℤ cond buys v (pos 0)) (pos 0) -ℤ cond here (cond sells w (pos 0) -ℤ cond buys w (pos 0)) (pos 0)
    by_cases true true true = omega (arith, ints)
    by_cases true true false = omega (arith, ints)
    by_cases true false true = omega (arith, ints)
    by_cases true false false = omega (arith, ints)
    by_cases false sells buys = omega (arith, ints)

-- whether there is a position
abbrev pub Has : Table PositionKey Position → PositionKey → Type 0
Has positions key = IsSome (find position_key_cmp key positions)

-- a key that is found is still found with one more row
pub some_stays : {X : Type 0} (b : Bool) (x : X) (o : Option X) → IsSome o → IsSome (cond b (Some x) o)
some_stays true x o h = refl
some_stays false x o h = h

-- after a volume is added to one position
module _ (key : PositionKey) (volume : ℤ) (positions : Table PositionKey Position) where
  -- the new position
  abbrev new_position : Position
  new_position = position_plus volume (position_in positions key)

  -- the positions are still a table
  pub moved_table : T (is_sorted position_key_cmp positions) → T (is_sorted position_key_cmp (with_moved key volume positions))
  moved_table = is_sorted-put position_key_cmp position_key_total key new_position positions

  -- the keys that had positions still have them
  stays-moved : (q : PositionKey) → Has positions q → Has (with_moved key volume positions) q
  stays-moved q h =
      ap is_some (find-put position_key_cmp position_key_total q key new_position positions)
      ∙ some_stays (eq_by_cmp position_key_cmp q key) new_position (find position_key_cmp q positions) h

  -- and the key has one
  has-moved : Has (with_moved key volume positions) key
  has-moved =
      ap is_some (find-put position_key_cmp position_key_total key key new_position positions)
      ∙ ap (λ b. is_some (cond b (Some new_position) (find position_key_cmp key positions))) ((eq_by_cmp_equiv position_key_total).refl key)

-- after a contract row replaces another
module _ (old : Option ContractRow) (new : ContractRow) (positions : Table PositionKey Position) where
  -- the growth of the volume
  abbrev more : ℤ
  more = new.contract.volume -ℤ volume_of old

  -- the keys of its seller's and its buyer's position
  abbrev sells : PositionKey
  sells = position_key new new.contract.counterparties.seller

  abbrev buys : PositionKey
  buys = position_key new new.contract.counterparties.buyer

  -- the part of the growth is added
  pub with_contract_are : (nets : PositionKey → ℤ) → AreOf nets positions
      → AreOf (λ q. nets q +ℤ part new.key.at new.contract.counterparties (new.contract.volume -ℤ volume_of old) q) (with_replaced old new positions)
  with_contract_are nets are =
      same_nets _ _ (with_replaced old new positions) (λ q. part_is new.key.at new.contract.counterparties more (nets q) q)
      (moved_are _ buys (pos 0 -ℤ more) (with_moved sells more positions) (moved_are nets sells more positions are))

  -- the positions are still a table
  pub with_replaced_table : T (is_sorted position_key_cmp positions) → T (is_sorted position_key_cmp (with_replaced old new positions))
  with_replaced_table h = moved_table buys (pos 0 -ℤ more) (with_moved sells more positions) (moved_table sells more positions h)

  -- the keys that had positions still have them
  pub stays-with_replaced : (q : PositionKey) → Has positions q → Has (with_replaced old new positions) q
  stays-with_replaced q h = stays-moved buys (pos 0 -ℤ more) (with_moved sells more positions) q (stays-moved sells more positions q h)

  -- the seller and the buyer have one
  pub sells-with_replaced : Has (with_replaced old new positions) (position_key new new.contract.counterparties.seller)
  sells-with_replaced = stays-moved buys (pos 0 -ℤ more) (with_moved sells more positions) sells (has-moved sells more positions)

  pub buys-with_replaced : Has (with_replaced old new positions) (position_key new new.contract.counterparties.buyer)
  buys-with_replaced = has-moved buys (pos 0 -ℤ more) (with_moved sells more positions)

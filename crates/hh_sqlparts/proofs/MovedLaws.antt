-- The volumes and the positions that are read for contract rows suffice: the rows change these positions as they change the whole tables.
use Rattle.std.proofs.Common.{◌≡◌, ◌∙◌, ℕ, ◌+◌, ◌<◌, ◌≤◌, List, [], ◌∷◌, ◌++◌, Ordering, Option, None, ap, get_or, length, refl, subst, sym, take, true}
use Rattle.std.specs.Prelude.{ℤ, All, T, unwrap_or, pos, Result, Ok, Err, IfOk}
use Rattle.std.specs.BTreeSet.{BTreeSet, Updates, contains}
use Rattle.std.specs.FinMap.{find, is_sorted, put}
use Rattle.std.specs.List.{flat_map}
use Rattle.std.specs.Option.{IfSome}
use Rattle.std.proofs.lemmas.List.{take_all, take_more}
use Rattle.hh_tables.specs.Tables.{IsTable, Table, put_all}
use Rattle.hh_tables.proofs.MergeLaws.{put_all-append, put_all_is_table, true_from}
use Rattle.hh_rows.specs.Keys.{contract_key_cmp}
use Rattle.hh_rows.specs.declared.keys.ContractKey.{ContractKey}
use Rattle.hh_rows.specs.declared.rows.ContractRow.{ContractRow}
use Rattle.hh_rows.specs.declared.rows.Row.{Row}
use Rattle.hh_rows.specs.declared.rows.Row.TheVariants as row
use Rattle.hh_rules.specs.History.{Registered, nothing_registered}
use Rattle.hh_rules.specs.Positions.{position_key, position_key_cmp}
use Rattle.hh_rules.specs.RegisterView.{AgreesOn}
use Rattle.hh_rules.specs.declared.positions.Position.{Position}
use Rattle.hh_rules.specs.declared.positions.Position.TheVariants.{Known}
use Rattle.hh_rules.specs.declared.positions.PositionKey.{PositionKey}
use Rattle.hh_kept_rows.specs.Keeping.{positions_with}
use Rattle.hh_kept_rows.specs.PositionLaws.{AgreesOnPositions}
use Rattle.hh_kept_rows.proofs.PositionKeys.{position_key_total}
use Rattle.hh_kept_rows.proofs.PositionParts.{parts_give_positions, parts_serve}
use Rattle.hh_sqlparts.specs.steps.Moved.{HasBoth, ServesPositions, buyer_of, seller_of}
use Rattle.hh_sqlparts.specs.steps.Named.{FindsNamed, IsAmong, entry_under, volume_key_of}
use Rattle.hh_sqlparts.proofs.NamedNames.{among_more, kept_by_update, names_nothing, names_this}
use Rattle.hh_sqlparts.proofs.NamedRows.{entry_is, found_of_named}
use Rattle.hh_sqlparts.proofs.NamedTables.{positions_named}

-- one more row of a list is put into a table
pub put_one_more : {K V : Type 0} (R : K → K → Ordering) (rows : List (K × V)) (i : ℕ) (e : K × V) → i < length rows → e ≡ get_or rows i e → (before after : Table K V)
    → before ≡ put_all R (take i rows) [] → after ≡ put R e.0 e.1 before → after ≡ put_all R (take (i + 1) rows) []
put_one_more R rows i e inside at before after so_far is =
    is ∙ ap (put R e.0 e.1) so_far
    ∙ sym (put_all-append R (take i rows) (e ∷ []) [])
    ∙ ap (λ l. put_all R l []) (ap (λ x. take i rows ++ x ∷ []) at ∙ sym (take_more rows i e inside))

-- ---- what is read suffices

-- a part that has the same as the whole under the keys of the seller and the buyer of a row agrees on the row
agrees_by_keys : (whole part : Table PositionKey Position) (r : Row) → IfSome (seller_of r) (λ k. find position_key_cmp k part ≡ find position_key_cmp k whole)
    → IfSome (buyer_of r) (λ k. find position_key_cmp k part ≡ find position_key_cmp k whole) → AgreesOnPositions whole part r
agrees_by_keys whole part (row.Party r) seller buyer = tt
agrees_by_keys whole part (row.Unit r) seller buyer = tt
agrees_by_keys whole part (row.Meter r) seller buyer = tt
agrees_by_keys whole part (row.Price r) seller buyer = tt
agrees_by_keys whole part (row.Contract r) seller buyer = (ap (λ o. unwrap_or o (Known (pos 0))) seller, ap (λ o. unwrap_or o (Known (pos 0))) buyer)
agrees_by_keys whole part (row.Reallocation r) seller buyer = tt

-- the positions that are read by the keys of the sellers and the buyers of rows suffice for the rows
pub serves_by_keys : (rows : List Row) (whole : Table PositionKey Position) (names : List PositionKey) → All (IsAmong position_key_cmp seller_of names) rows → All (IsAmong position_key_cmp buyer_of names) rows
    → (found part : Table PositionKey Position) → found ≡ flat_map (entry_under position_key_cmp whole) names → part ≡ put_all position_key_cmp found []
    → ServesPositions rows whole part
serves_by_keys rows whole names sellers buyers found part is became =
    let sold = positions_named rows seller_of whole names sellers found part is became in
    let bought = positions_named rows buyer_of whole names buyers found part is became in
    record {
      rising = subst (IsTable position_key_cmp) (sym became) (put_all_is_table position_key_total found [] refl);
      inside = λ k p here. found_of_named position_key_cmp position_key_total whole (entry_under position_key_cmp whole) (entry_is position_key_cmp position_key_total whole) names k p
          (ap (λ es. find position_key_cmp k (put_all position_key_cmp es [])) (sym is) ∙ ap (find position_key_cmp k) (sym became) ∙ here);
      agrees = λ k d below. agrees_by_keys whole part _ (sold k d below) (bought k d below);
    }

-- what is registered and in force, with only these volumes
in_force : Table ContractKey ℤ → Registered
in_force volumes = record nothing_registered { contracts = volumes }

-- a part that has the volume in force under the key of a row agrees on the row
agrees_by_volume : (whole part : Table ContractKey ℤ) (r : Row) → IfSome (volume_key_of r) (λ k. find contract_key_cmp k part ≡ find contract_key_cmp k whole) → AgreesOn (in_force whole) (in_force part) r
unfolding in_force
agrees_by_volume whole part (row.Party r) volume = refl
agrees_by_volume whole part (row.Unit r) volume = (refl, refl, refl, refl)
agrees_by_volume whole part (row.Meter r) volume = (refl, refl, refl)
agrees_by_volume whole part (row.Price r) volume = refl
agrees_by_volume whole part (row.Contract r) volume = (refl, refl, refl, volume)
agrees_by_volume whole part (row.Reallocation r) volume = (refl, refl, refl, refl)

-- if what was read suffices for rows, the positions that they change, put into the whole table, make of it what the rows make of it
pub moved_in_whole : (rows : List Row) (whole_volumes volumes : Table ContractKey ℤ) (whole part moved : Table PositionKey Position) → T (is_sorted position_key_cmp whole)
    → FindsNamed contract_key_cmp volume_key_of rows whole_volumes volumes → ServesPositions rows whole part → moved ≡ positions_with rows volumes part
    → put_all position_key_cmp moved whole ≡ positions_with rows whole_volumes whole
unfolding in_force
moved_in_whole rows whole_volumes volumes whole part moved rises finds serves is =
    ap (λ es. put_all position_key_cmp es whole) is
    ∙ parts_serve rows volumes whole part (true_from _ rises) serves.rising serves.inside serves.agrees
    ∙ parts_give_positions rows (in_force whole_volumes) (in_force volumes) whole (λ k d below. agrees_by_volume whole_volumes volumes _ (finds k d below))

-- ---- the keys by which positions are read

-- if a key is added to a set, the set has it and all keys that it had
pub has_both : (r : ContractRow) (old mid new : BTreeSet PositionKey) (seller buyer : PositionKey) → seller ≡ position_key r r.contract.counterparties.seller → buyer ≡ position_key r r.contract.counterparties.buyer
    → Updates position_key_cmp old mid seller true → Updates position_key_cmp mid new buyer true → HasBoth r old new
has_both r old mid new seller buyer sells buys first last =
    let kept : (key : PositionKey) → contains position_key_cmp mid key ≡ true → contains position_key_cmp new key ≡ true = kept_by_update position_key_cmp seller_of mid new buyer last in
    record {
      kept = λ key here. kept key (kept_by_update position_key_cmp seller_of old mid seller first key here);
      seller = ap (contains position_key_cmp new) (sym sells) ∙ kept seller first.1;
      buyer = ap (contains position_key_cmp new) (sym buys) ∙ last.1;
    }

module _ (rows : List Row) (i : ℕ) (r : Row) (inside : i < length rows) (is : r ≡ get_or rows i r) (old new : BTreeSet PositionKey) where
  -- the keys of one more contract row
  pub sellers_more : (c : ContractRow) → r ≡ row.Contract c → HasBoth c old new → All (IsAmong position_key_cmp seller_of old.keys) (take i rows) → All (IsAmong position_key_cmp seller_of new.keys) (take (i + 1) rows)
  sellers_more c one has so_far =
      among_more position_key_cmp seller_of rows i r inside is old new so_far has.kept
      (names_this position_key_cmp seller_of r (position_key c c.contract.counterparties.seller) new.keys (ap seller_of one) has.seller)

  pub buyers_more : (c : ContractRow) → r ≡ row.Contract c → HasBoth c old new → All (IsAmong position_key_cmp buyer_of old.keys) (take i rows) → All (IsAmong position_key_cmp buyer_of new.keys) (take (i + 1) rows)
  buyers_more c one has so_far =
      among_more position_key_cmp buyer_of rows i r inside is old new so_far has.kept
      (names_this position_key_cmp buyer_of r (position_key c c.contract.counterparties.buyer) new.keys (ap buyer_of one) has.buyer)

-- a row of another kind names none
none_more : (name : Row → Option PositionKey) (rows : List Row) (i : ℕ) (r : Row) → i < length rows → r ≡ get_or rows i r → (keys : BTreeSet PositionKey) → name r ≡ None
    → All (IsAmong position_key_cmp name keys.keys) (take i rows) → All (IsAmong position_key_cmp name keys.keys) (take (i + 1) rows)
none_more name rows i r inside is keys none so_far =
    among_more position_key_cmp name rows i r inside is keys keys so_far (λ n h. h) (names_nothing position_key_cmp name r keys.keys none)

no_seller : (r : Row) → ((c : ContractRow) → r ≡ row.Contract c → ⊥) → seller_of r ≡ None
no_seller (row.Contract c) other = absurd (other c refl)
no_seller (row.Party r) other = refl
no_seller (row.Unit r) other = refl
no_seller (row.Meter r) other = refl
no_seller (row.Price r) other = refl
no_seller (row.Reallocation r) other = refl

no_buyer : (r : Row) → ((c : ContractRow) → r ≡ row.Contract c → ⊥) → buyer_of r ≡ None
no_buyer (row.Contract c) other = absurd (other c refl)
no_buyer (row.Party r) other = refl
no_buyer (row.Unit r) other = refl
no_buyer (row.Meter r) other = refl
no_buyer (row.Price r) other = refl
no_buyer (row.Reallocation r) other = refl

module _ (rows : List Row) (i : ℕ) (r : Row) (inside : i < length rows) (is : r ≡ get_or rows i r) (old new : BTreeSet PositionKey) (same : new ≡ old) (other : (c : ContractRow) → r ≡ row.Contract c → ⊥) where
  -- no new key
  pub no_seller_more : All (IsAmong position_key_cmp seller_of old.keys) (take i rows) → All (IsAmong position_key_cmp seller_of new.keys) (take (i + 1) rows)
  no_seller_more so_far = subst (λ (s : BTreeSet PositionKey). All (IsAmong position_key_cmp seller_of s.keys) (take (i + 1) rows)) (sym same) (none_more seller_of rows i r inside is old (no_seller r other) so_far)

  pub no_buyer_more : All (IsAmong position_key_cmp buyer_of old.keys) (take i rows) → All (IsAmong position_key_cmp buyer_of new.keys) (take (i + 1) rows)
  no_buyer_more so_far = subst (λ (s : BTreeSet PositionKey). All (IsAmong position_key_cmp buyer_of s.keys) (take (i + 1) rows)) (sym same) (none_more buyer_of rows i r inside is old (no_buyer r other) so_far)

-- what is in a set is in the list of its keys
pub among_listed : {V E : Type 0} (items : V → List PositionKey) (name : Row → Option PositionKey) (rows : List Row) (i : ℕ) (keys : List PositionKey) → length rows ≤ i
    → All (IsAmong position_key_cmp name keys) (take i rows) → (result : Result V E) → IfOk result (λ list. items list ≡ keys) → IfOk result (λ list. All (IsAmong position_key_cmp name (items list)) rows)
among_listed items name rows i keys all among (Ok list) is =
    subst (λ names. All (IsAmong position_key_cmp name names) rows) (sym is) (subst (All (IsAmong position_key_cmp name keys)) (take_all i rows all) among)
among_listed items name rows i keys all among (Err refused) is = tt

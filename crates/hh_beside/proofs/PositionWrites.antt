-- Tables of positions by what is found in them, after others are put into them.
use Rattle.std.proofs.Common.{◌≡◌, [], ◌∷◌, refl, ap, sym, ◌∙◌, Bool, true, false, cond, Option, Some, None}
use Rattle.std.specs.Prelude.{T}
use Rattle.std.specs.Cmp.{Equal-is}
use Rattle.std.specs.FinMap.{find, is_sorted, put}
use Rattle.std.specs.FinMap.Entries.{find-put, find_tied, is_sorted-put, same_entries}
use Rattle.std.specs.Option.{option_or}
use Rattle.std.specs.Ordering.{eq_by_cmp}
use Rattle.hh_tables.specs.Tables.{IsTable, Table, put_all}
use Rattle.hh_tables.proofs.MergeLaws.{from_true}
use Rattle.hh_tables.proofs.RowLaws.{first, is_sorted-put_all, second}
use Rattle.hh_rows.specs.declared.rows.Row.TheVariants as row
use Rattle.hh_rules.specs.Positions.{position_key_cmp}
use Rattle.hh_rules.specs.declared.positions.Position.{Position}
use Rattle.hh_rules.specs.declared.positions.PositionKey.{PositionKey}
use Rattle.hh_beside.proofs.PositionKeys.{exact_position_keys, position_key_total}
use Rattle.hh_beside.proofs.PositionLists.{not_below}

-- what is found in changed positions, or otherwise in the table
pub found_changed : (changed positions : Table PositionKey Position) (key : PositionKey) → T (is_sorted position_key_cmp changed)
    → find position_key_cmp key (put_all position_key_cmp changed positions) ≡ option_or (find position_key_cmp key changed) (find position_key_cmp key positions)
found_changed [] positions key h = refl
found_changed (e ∷ changed) positions key h =
    let later : Option Position = find position_key_cmp key changed in
    let before : Option Position = find position_key_cmp key positions in
    found_changed changed (put position_key_cmp e.0 e.1 positions) key (second _ _ h)
    ∙ ap (option_or later) (find-put position_key_cmp position_key_total key e.0 e.1 positions)
    ∙ elim (eq_by_cmp position_key_cmp key e.0) as (λ b. eq_by_cmp position_key_cmp key e.0 ≡ b → option_or later (cond b (Some e.1) before) ≡ option_or (cond b (Some e.1) later) before) [
      | true ↦ λ same.
          let none : later ≡ None = sym (find_tied position_key_cmp position_key_total key e.0 ((Equal-is (position_key_cmp key e.0)).0 same) changed) ∙ not_below position_key_total e.0 changed (first _ _ h) in
          ap (λ o. option_or o (Some e.1)) none
      | false ↦ λ other. refl
    ] refl

pub one_more_changed : (changed positions : Table PositionKey Position) (key : PositionKey) (position : Position)
    → IsTable position_key_cmp changed → IsTable position_key_cmp positions
    → put_all position_key_cmp (put position_key_cmp key position changed) positions
    ≡ put position_key_cmp key position (put_all position_key_cmp changed positions)
one_more_changed changed positions key position h k =
    let sorted : T (is_sorted position_key_cmp changed) = from_true _ h in
    let rising : T (is_sorted position_key_cmp positions) = from_true _ k in
    let more : Table PositionKey Position = put position_key_cmp key position changed in
    let all : Table PositionKey Position = put_all position_key_cmp changed positions in
    let more_sorted : T (is_sorted position_key_cmp more) = is_sorted-put position_key_cmp position_key_total key position changed sorted in
    same_entries position_key_cmp position_key_total exact_position_keys (put_all position_key_cmp more positions) (put position_key_cmp key position all)
    (is_sorted-put_all position_key_total more positions rising)
    (is_sorted-put position_key_cmp position_key_total key position all (is_sorted-put_all position_key_total changed positions rising))
    (λ q.
    found_changed more positions q more_sorted
    ∙ ap (λ o. option_or o (find position_key_cmp q positions)) (find-put position_key_cmp position_key_total q key position changed)
    ∙ outside (eq_by_cmp position_key_cmp q key) (find position_key_cmp q changed) (find position_key_cmp q positions)
    ∙ ap (cond (eq_by_cmp position_key_cmp q key) (Some position)) (sym (found_changed changed positions q sorted))
    ∙ sym (find-put position_key_cmp position_key_total q key position all))
  where
    outside : (b : Bool) (o p : Option Position) → option_or (cond b (Some position) o) p ≡ cond b (Some position) (option_or o p)
    outside true o p = refl
    outside false o p = refl

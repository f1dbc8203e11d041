-- The positions from contracts that come one after the other.
use Rattle.std.proofs.Common.{◌≡◌, ℕ, ◌+◌, ◌<◌, List, [], ◌∷◌, ◌++◌, length, take, get_or, refl, sym, ap, ◌∙◌}
use Rattle.std.specs.Prelude.{None}
use Rattle.std.proofs.lemmas.List.{take_more}
use Rattle.hh_tables.specs.Tables.{Table}
use Rattle.hh_rows.specs.declared.rows.ContractRow.{ContractRow}
use Rattle.hh_rules.specs.Positions.{with_replaced}
use Rattle.hh_rules.specs.declared.positions.Position.{Position}
use Rattle.hh_rules.specs.declared.positions.PositionKey.{PositionKey}
use Rattle.hh_kept_rows.specs.Keeping.{positions_of}

positions_by_last : (r : ContractRow) (rows : List ContractRow) (positions : Table PositionKey Position) → with_replaced None r (positions_of rows positions) ≡ positions_of (rows ++ r ∷ []) positions
positions_by_last r [] positions = refl
positions_by_last r (q ∷ rows) positions = positions_by_last r rows (with_replaced None q positions)

-- one more contract
pub positions_more : (rows : List ContractRow) (i : ℕ) (row : ContractRow) → i < length rows → row ≡ get_or rows i row → (before after : Table PositionKey Position)
    → before ≡ positions_of (take i rows) [] → after ≡ with_replaced None row before → after ≡ positions_of (take (i + 1) rows) []
positions_more rows i row inside is before after so_far became =
    became ∙ ap (with_replaced None row) so_far ∙ positions_by_last row (take i rows) []
    ∙ ap (λ these. positions_of these []) (ap (λ r. take i rows ++ r ∷ []) is ∙ sym (take_more rows i row inside))

-- What a query's answer is read as, for any query.
use Rattle.std.specs.Prelude.{◌≡◌, ℕ, List, map, slice_get, Option, Some, option_map}
use Rattle.sqlite_value.specs.Order.{Row}
use Rattle.sqlite.specs.Listing.{understood}
use Rattle.sqlite.specs.Given.{IsPlain}
use Rattle.sqlite.specs.State.{State, Shown}
use Rattle.hh_keyed_rows.specs.Codecs.{Codec}
use Rattle.hh_keyed_rows.specs.KeyedRows.{entry_in}

-- the query's answer has rows that are read as these keys and values
abbrev pub IsRead : {K V : Type 0} → Codec K → Codec V → List ℕ → Row → State → State → List (K × V) → Type 0
IsRead key value sql params old new found =
    (rows : List Row) × Shown sql params old new rows × (map (entry_in key value) rows ≡ map Some found)

-- the value is the first of those that are read
abbrev pub IsFirst : {K V : Type 0} → Codec K → Codec V → List ℕ → Row → State → State → Option V → Type 0
IsFirst {K} {V} key value sql params old new first =
    (found : List (K × V)) × IsRead key value sql params old new found × (first ≡ option_map (λ e. e.1) (slice_get found 0))

-- under the present schema the statement writes nothing and does not read the clock
abbrev pub IsPlainOf : State → List ℕ → Type 0
IsPlainOf old sql = IsPlain (understood old.now.schema sql)

-- The sizes of all shares as one list.
use Rattle.std.specs.Prelude.{ℕ, List, map}
use Rattle.std.specs.List.{enumerate_from}
use Rattle.hh_share.specs.Shares.{share_size}

-- the sizes of the shares of so many pence by these weights, in their order
abbrev pub sizes_by : ℕ → List ℕ → List ℕ
sizes_by size weights = map (share_size size weights) (enumerate_from 0 weights)

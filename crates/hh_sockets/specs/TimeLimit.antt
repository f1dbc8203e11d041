-- How long calls may wait, in nanoseconds.
use Rattle.std.specs.Prelude.{◌≡◌, ℕ, ◌+◌, ◌*◌, min, max}
use Rattle.std.specs.Duration.{as_nanos, max_nanos}
use Rattle.hh_sockets.specs.declared.time_limit.TimeLimit.{TimeLimit}

-- how long a client is awaited in all for its request, and then in all for its reply: 30 seconds
abbrev pub most_time : ℕ
most_time = 30 * 1_000_000_000

-- how long it is awaited in one read or write: ten seconds
abbrev pub most_wait : ℕ
most_wait = 10 * 1_000_000_000

-- how long a client that has its reply is awaited in one read, and how much longer than its time in all: half a second
abbrev pub most_behind : ℕ
most_behind = 500 * 1_000_000

-- the limit has these lengths: for all calls together, and for each
abbrev pub IsLimit : ℕ → ℕ → TimeLimit → Type 0
IsLimit in_all in_one limit = (as_nanos limit.in_all ≡ in_all) × (as_nanos limit.in_one ≡ in_one)

-- the limit after a reply, if `passed` is over under the old limit: half a second more than what is left, up to the greatest duration, and
-- half a second in one call
abbrev pub IsLimitBehind : TimeLimit → ℕ → TimeLimit → Type 0
IsLimitBehind old passed = IsLimit (min (max (as_nanos old.in_all) passed + most_behind) max_nanos) most_behind

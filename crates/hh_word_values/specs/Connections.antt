-- The port on which connections are served, and how many.
use Rattle.std.specs.Prelude.{ℕ, List, Option}
use Rattle.hh_num.specs.Naturals.{natural_up_to}

-- a port, written only in digits: 0 to 65,535
unfoldable pub port_value : List ℕ → Option ℕ
port_value word = natural_up_to 65_535 word

-- a count of connections, written only in digits: 0 to 1,000,000
unfoldable pub count_value : List ℕ → Option ℕ
count_value word = natural_up_to 1_000_000 word

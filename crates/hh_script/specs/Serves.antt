-- The lines that serve connections.
use Rattle.std.specs.Prelude.{ℕ, ℤ, List, [], ◌∷◌, Option, Some, None}
use Rattle.hh_word_values.specs.Connections.{count_value, port_value}
use Rattle.hh_word_values.specs.Values.{moment_value}
use Rattle.hh_script.specs.declared.serve.ServeLine.{ServeLine}

-- the values of a line that serves, if all are there
abbrev pub serve_from : Option ℤ → Option ℕ → Option ℕ → Option ServeLine
serve_from (Some moment) (Some port) (Some count) = Some (record { moment = moment; port = port; count = count })
serve_from _ _ _ = None

-- SECONDS PORT COUNT
abbrev pub serve_value : List (List ℕ) → Option ServeLine
serve_value (moment ∷ port ∷ count ∷ []) = serve_from (moment_value moment) (port_value port) (count_value count)
serve_value _ = None

-- The values that a subcommand was given.
use Rattle.std.specs.Prelude.{ℕ, ℤ, List, Option, Some, None, codes, option_map}
use Rattle.clap.specs.Words.{Row, Text, first_of}
use Rattle.hh_names.specs.Words.{operator_key_value}
use Rattle.hh_rows.specs.Minutes.{lead_minutes_value}
use Rattle.hh_rows.specs.declared.settings.Settings.{Settings}
use Rattle.hh_word_values.specs.Connections.{count_value}
use Rattle.hh_word_values.specs.Values.{moment_value, shown_key_value}

-- a value that must be given, and must be in its grammar
abbrev pub required_value : {A : Type 0} → (Text → Option A) → Option Text → Option A
required_value value None = None
required_value value (Some text) = value text

-- the minutes that notifications close before their period: those that are given, or 60
abbrev pub minutes_given : Option Text → Option ℕ
minutes_given None = Some 60
minutes_given (Some text) = lead_minutes_value text

-- how many connections are served: as many as are given, or 1,000,000
abbrev pub count_given : Option Text → Option ℕ
count_given None = Some 1_000_000
count_given (Some text) = count_value text

-- the moment, if one is given
abbrev pub moment_given : Option Text → Option (Option ℤ)
moment_given None = Some None
moment_given (Some text) = option_map Some (moment_value text)

-- the settings of a new office, if both are there
abbrev pub settings_from : Option (List ℕ) → Option ℕ → Option Settings
settings_from (Some key) (Some minutes) = Some (record { lead_minutes = minutes; operator_key = key })
settings_from _ _ = None

-- the settings of a new office, by the words for its key and its minutes
abbrev pub settings_given : Option Text → Option Text → Option Settings
settings_given key minutes = settings_from (required_value operator_key_value key) (minutes_given minutes)

-- the settings of a new office, by what a subcommand was given
abbrev pub given_settings : List Row → Option Settings
given_settings rows = settings_given (first_of (codes "operator-key") rows) (first_of (codes "lead-minutes") rows)

-- the key that is shown: the operator's or a party's
abbrev pub given_key : List Row → Option (List ℕ)
given_key rows = required_value shown_key_value (first_of (codes "key") rows)

abbrev pub given_moment : List Row → Option (Option ℤ)
given_moment rows = moment_given (first_of (codes "at") rows)

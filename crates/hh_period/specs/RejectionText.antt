-- The text that tells a rejection.
use Rattle.std.specs.Prelude.{ℕ, List, [], ◌++◌, Option, Some, None, codes}
use Rattle.hh_names.specs.FaultText.{fault_text}
use Rattle.hh_period.specs.declared.rejection.Input.{Input}
use Rattle.hh_period.specs.declared.rejection.Input.TheVariants.{Meter, Contracts, Price}
use Rattle.hh_period.specs.declared.rejection.Rejection.{Rejection}

-- the word for an input
abbrev pub input_word : Input → List ℕ
input_word Meter = codes "meter"
input_word Contracts = codes "contracts"
input_word Price = codes "price"

-- the ending that names an input
abbrev pub input_ending : Option Input → List ℕ
input_ending None = []
input_ending (Some input) = codes " in " ++ input_word input

-- the refusal and its input
abbrev pub rejection_text : Rejection → List ℕ
rejection_text e = fault_text e.fault ++ input_ending e.input

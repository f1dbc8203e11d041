-- The text that tells a refusal.
use Rattle.std.specs.Prelude.{ℕ, List, [], ◌++◌, Option, Some, None, codes, decimal}
use Rattle.hh_names.specs.declared.fault.Fault.{Fault}
use Rattle.hh_names.specs.Faults.{refusal_number, refusal_name}

-- a number behind its word, if the refusal has the number
abbrev pub number_place : List ℕ → Option ℕ → List ℕ
number_place word None = []
number_place word (Some number) = word ++ decimal number

-- the unit, if the refusal has one
abbrev pub unit_place : Option (List ℕ) → List ℕ
unit_place None = []
unit_place (Some unit) = codes " unit " ++ unit

-- `refused <number> <name>`
abbrev pub refusal_head : Fault → List ℕ
refusal_head fault = codes "refused " ++ decimal (refusal_number fault.refusal) ++ codes " " ++ refusal_name fault.refusal

-- the row, the column, the unit and the period, if the fault has them
abbrev pub refusal_places : Fault → List ℕ
refusal_places fault = number_place (codes " row ") fault.row ++ number_place (codes " column ") fault.column
    ++ unit_place fault.unit ++ number_place (codes " period ") fault.period

-- the refusal and its places
abbrev pub fault_text : Fault → List ℕ
fault_text fault = refusal_head fault ++ refusal_places fault

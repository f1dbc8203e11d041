-- What the inputs of `settle period` give: the text of the settled period, or the first refusal.
use Rattle.std.specs.Prelude.{◌≡◌, ℕ, ℤ, List, Option, Some, None, Result, Ok, Err, if◌then◌else◌}
use Rattle.std.specs.Io.KnownBytes.{Appends}
use Rattle.hh_devices.specs.DeviceChanges.{DeviceChange}
use Rattle.hh_devices.specs.Devices.{AppendsFront}
use Rattle.hh_names.specs.declared.fault.Fault.{Fault}
use Rattle.hh_names.specs.declared.fault.Refusal.TheVariants.{BadField, TooLarge}
use Rattle.hh_names.specs.Faults.{memory_fault, plain_fault, Refusing}
use Rattle.hh_num.specs.Quantities.{price_value}
use Rattle.hh_calc.specs.Limits.{is_within_limits}
use Rattle.hh_calc.specs.Terms.{PeriodDataView}
use Rattle.hh_texts.specs.PeriodFiles.{period_contract_rows, period_meter_rows}
use Rattle.hh_period.specs.declared.rejection.Input.{Input}
use Rattle.hh_period.specs.declared.rejection.Input.TheVariants.{Contracts, Meter, Price}
use Rattle.hh_period.specs.declared.rejection.Rejection.{Rejection}
use Rattle.hh_period.specs.PeriodText.{period_text}
use Rattle.hh_period.specs.Rows.{accepted_rows, period_of}

-- what the inputs give, or why they are refused
abbrev pub Outcome : Type 0 → Type 0
Outcome A = Result A Rejection

infixl 10 ◌>>=◌
abbrev pub ◌>>=◌ : {A B : Type 0} → Outcome A → (A → Outcome B) → Outcome B
(Ok x) >>= f = f x
(Err e) >>= f = Err e

-- a fault in an input
abbrev pub rejection_in : Input → Fault → Rejection
rejection_in input fault = record { fault = fault; input = Some input }

-- what an input reads as, or the fault in it
abbrev pub read_from : {A : Type 0} → Input → Result A Fault → Outcome A
read_from input (Ok x) = Ok x
read_from input (Err fault) = Err (rejection_in input fault)

-- a price in its grammar and range
abbrev pub priced : Option ℤ → Outcome ℤ
priced None = Err (rejection_in Price (plain_fault BadField))
priced (Some price) = Ok price

-- the period of the inputs: meter rows are judged first, then contract rows, then the price
abbrev pub period_input : List ℕ → List ℕ → List ℕ → Outcome PeriodDataView
period_input meter contracts price = do
  meter_rows ← read_from Meter (period_meter_rows meter)
  rows ← read_from Contracts (period_contract_rows contracts)
  contract_rows ← read_from Contracts (accepted_rows rows)
  value ← priced (price_value price)
  Ok (period_of meter_rows contract_rows value)

-- the text of a period, if none of its figures exceeds a limit of a run
abbrev pub settled_text : PeriodDataView → Outcome (List ℕ)
settled_text p = if is_within_limits p then Ok (period_text p) else Err (record { fault = plain_fault TooLarge; input = None })

-- the text for the inputs
abbrev pub period_outcome : List ℕ → List ℕ → List ℕ → Outcome (List ℕ)
period_outcome meter contracts price = period_input meter contracts price >>= settled_text

-- the refusal for memory, which names no input
abbrev pub memory_rejection : Rejection
memory_rejection = record { fault = memory_fault; input = None }

-- rejections as errors that are refusals
abbrev pub rejections : Refusing Rejection
rejections = record { refusal = λ e. e.fault.refusal; memory = memory_rejection }

-- the outcome is a text, and it was written
abbrev pub Writes : Outcome (List ℕ) → DeviceChange → Type 0
Writes outcome device = (text : List ℕ) × (outcome ≡ Ok text) × Appends device.old device.new text

-- the outcome is a text, and a beginning of it was written
abbrev pub WritesFront : Outcome (List ℕ) → DeviceChange → Type 0
WritesFront outcome device = (text : List ℕ) × (outcome ≡ Ok text) × AppendsFront device.old device.new text

-- Refusals with their places.
use Rattle.std.specs.Prelude.{◌≡◌, ℕ, ◌≤◌, List, [], ◌∷◌, Bool, true, Option, Some, None, Result, Ok, Err, codes, if◌then◌else◌}
use Rattle.std.specs.List.{AllByRecursion}
use Rattle.hh_names.specs.declared.fault.Fault.{Fault}
use Rattle.hh_names.specs.declared.fault.Refusal.{Refusal}
use Rattle.hh_names.specs.declared.fault.Refusal.TheVariants as refusal

-- a refusal with no place
abbrev pub plain_fault : Refusal → Fault
plain_fault r = record { refusal = r; row = None; column = None; unit = None; period = None }

-- a refusal of a row; rows are numbered from 1 without the header
abbrev pub row_fault : Refusal → ℕ → Fault
row_fault r row = record (plain_fault r) { row = Some row }

-- a refusal of a field that is off its grammar or range; columns are numbered from 1
abbrev pub field_fault : ℕ → ℕ → Fault
field_fault row column = record (plain_fault refusal.BadField) { row = Some row; column = Some column }

-- memory was refused
abbrev pub memory_fault : Fault
memory_fault = plain_fault refusal.Memory

-- one fact for the refusal of memory, another for any other refusal
abbrev pub ByRefusal : Refusal → Type 0 → Type 0 → Type 0
ByRefusal refusal.Memory memory other = memory
ByRefusal refusal memory other = other

-- a type of errors that are refusals: which refusal each is, and the error for refused memory
pub record Refusing (E : Type 0) : Type 0 where
  pub refusal : E → Refusal
  pub memory : E

module _ {E : Type 0} (errors : Refusing E) where
  -- an error that was answered is the outcome's; if memory was refused, the outcome may be another
  abbrev pub Refuses : {Y : Type 0} → E → Result Y E → Type 0
  Refuses e outcome = ByRefusal (errors.refusal e) (e ≡ errors.memory) (outcome ≡ Err e)

  -- the answer is the outcome, or that memory was refused
  abbrev pub IsOutcomeOrNoMemory : {X Y : Type 0} → (X → Y) → Result X E → Result Y E → Type 0
  IsOutcomeOrNoMemory view (Ok x) outcome = outcome ≡ Ok (view x)
  IsOutcomeOrNoMemory view (Err e) outcome = Refuses e outcome

-- faults as a type of errors
abbrev pub faults : Refusing Fault
faults = record { refusal = λ fault. fault.refusal; memory = memory_fault }

-- the first refusal of a list whose condition is met
abbrev pub first_met : List (Refusal × Bool) → Option Refusal
first_met [] = None
first_met (r ∷ rs) = if r.1 then Some r.0 else first_met rs

-- the number by which a refusal is known
abbrev pub refusal_number : Refusal → ℕ
refusal_number refusal.FileTooLarge = 10
refusal_number refusal.TooManyRows = 11
refusal_number refusal.BadHeader = 12
refusal_number refusal.BadRecord = 13
refusal_number refusal.BadField = 14
refusal_number refusal.FileChanged = 20
refusal_number refusal.UnknownParty = 30
refusal_number refusal.UnknownUnit = 31
refusal_number refusal.NotEffective = 33
refusal_number refusal.NoSuchPeriod = 34
refusal_number refusal.SameAccount = 35
refusal_number refusal.ReferenceMoved = 36
refusal_number refusal.OwnLead = 37
refusal_number refusal.OverHundred = 38
refusal_number refusal.ShrinksRange = 39
refusal_number refusal.UnitMoved = 40
refusal_number refusal.LeadIsSubsidiary = 41
refusal_number refusal.TooMany = 42
refusal_number refusal.RunOrder = 50
refusal_number refusal.NoInitialRun = 51
refusal_number refusal.DayNotOver = 52
refusal_number refusal.MissingPrice = 53
refusal_number refusal.MissingMeter = 54
refusal_number refusal.TooLarge = 55
refusal_number refusal.Forbidden = 60
refusal_number refusal.NoRoute = 61
refusal_number refusal.BadMethod = 62
refusal_number refusal.NoRun = 63
refusal_number refusal.LengthRequired = 64
refusal_number refusal.BadRequest = 65
refusal_number refusal.BodyTooLarge = 66
refusal_number refusal.Memory = 90
refusal_number refusal.Store = 91

-- the name by which a refusal is known
abbrev pub refusal_name : Refusal → List ℕ
refusal_name refusal.FileTooLarge = codes "FileTooLarge"
refusal_name refusal.TooManyRows = codes "TooManyRows"
refusal_name refusal.BadHeader = codes "BadHeader"
refusal_name refusal.BadRecord = codes "BadRecord"
refusal_name refusal.BadField = codes "BadField"
refusal_name refusal.FileChanged = codes "FileChanged"
refusal_name refusal.UnknownParty = codes "UnknownParty"
refusal_name refusal.UnknownUnit = codes "UnknownUnit"
refusal_name refusal.NotEffective = codes "NotEffective"
refusal_name refusal.NoSuchPeriod = codes "NoSuchPeriod"
refusal_name refusal.SameAccount = codes "SameAccount"
refusal_name refusal.ReferenceMoved = codes "ReferenceMoved"
refusal_name refusal.OwnLead = codes "OwnLead"
refusal_name refusal.OverHundred = codes "OverHundred"
refusal_name refusal.ShrinksRange = codes "ShrinksRange"
refusal_name refusal.UnitMoved = codes "UnitMoved"
refusal_name refusal.LeadIsSubsidiary = codes "LeadIsSubsidiary"
refusal_name refusal.TooMany = codes "TooMany"
refusal_name refusal.RunOrder = codes "RunOrder"
refusal_name refusal.NoInitialRun = codes "NoInitialRun"
refusal_name refusal.DayNotOver = codes "DayNotOver"
refusal_name refusal.MissingPrice = codes "MissingPrice"
refusal_name refusal.MissingMeter = codes "MissingMeter"
refusal_name refusal.TooLarge = codes "TooLarge"
refusal_name refusal.Forbidden = codes "Forbidden"
refusal_name refusal.NoRoute = codes "NoRoute"
refusal_name refusal.BadMethod = codes "BadMethod"
refusal_name refusal.NoRun = codes "NoRun"
refusal_name refusal.LengthRequired = codes "LengthRequired"
refusal_name refusal.BadRequest = codes "BadRequest"
refusal_name refusal.BodyTooLarge = codes "BodyTooLarge"
refusal_name refusal.Memory = codes "Memory"
refusal_name refusal.Store = codes "Store"

-- no refusal of the list whose condition is met has a lesser number
abbrev pub IsLeast : Refusal → List (Refusal × Bool) → Type 0
IsLeast least rs = AllByRecursion (λ r. r.1 ≡ true → refusal_number least ≤ refusal_number r.0) rs

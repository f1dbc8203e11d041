-- Rows that a statement selects and that are given to a taker, one after the other.
use Rattle.std.specs.Prelude.{◌≡◌, ◌⊎◌, List, [], ◌∷◌, ◌++◌, Result, Ok, Err}
use Rattle.hh_devices.specs.DeviceChanges.{DeviceChange}
use Rattle.hh_keyed_rows.specs.output_fault.OutputFault.{OutputFault}

-- `Has` says what a taker is after it was given rows. `Stopped` says how it stopped for a fault after some rows, and what it wrote.
module _ {R : Type 0} (Has : List R → Type 0) (Stopped : OutputFault → List R → Type 0) where
  -- it took one more row; or it stopped for a fault, after that row or before it
  abbrev pub TakesRow : {A : Type 0} → List R → R → Result A OutputFault → Type 0
  TakesRow rows row (Ok x) = Has (rows ++ row ∷ [])
  TakesRow rows row (Err fault) = Stopped fault rows ⊎ Stopped fault (rows ++ row ∷ [])

  -- it took rows, for which `AreAll` holds; or it stopped for a fault after rows, for which `AreSome` holds
  abbrev pub GivesSo : {A : Type 0} → (AreAll AreSome : List R → Type 0) → Result A OutputFault → Type 0
  GivesSo AreAll AreSome (Ok x) = (taken : List R) × Has taken × AreAll taken
  GivesSo AreAll AreSome (Err fault) = (taken : List R) × Stopped fault taken × AreSome taken

  -- it took rows, which surely are all; or it stopped for a fault after rows, which surely are the first of all
  abbrev pub GivesEach : {A : Type 0} → (Type 0 → Type 0) → List R → Result A OutputFault → Type 0
  GivesEach Surely all = GivesSo (λ taken. Surely (taken ≡ all)) (λ taken. Surely ((rest : List R) × (all ≡ taken ++ rest)))

-- A taker that was given no row yet is given rows. `Gives` says which, by what then holds of the taker and by how it stopped. `has` and
-- `stopped` say this of a change of the output, which `changed` tells of two outputs.
abbrev pub GivesToNew : {O T P R : Type 0} → (O → O → DeviceChange) → (DeviceChange → T → P → List R → Type 0) → (DeviceChange → P → OutputFault → List R → Type 0)
    → (old new : O) → (before after : T) → ((List R → Type 0) → (OutputFault → List R → Type 0) → Type 0) → Type 0
GivesToNew {O = O} {P = P} changed has stopped old new before after Gives =
    (begun : O) (report : P) → has (changed begun old) before report [] → Gives (has (changed begun new) after report) (stopped (changed begun new) report)

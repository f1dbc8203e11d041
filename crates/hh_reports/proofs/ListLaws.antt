-- Lists that are gone through place by place, and texts that grow with them.
use Rattle.std.proofs.Common.{◌≡◌, ℕ, ◌+◌, ◌<◌, List, [], ◌∷◌, ◌++◌, length, take, drop, get_or, sym, ap, subst, ◌∙◌}
use Rattle.std.proofs.lemmas.List.{take-append-drop, take_more}
use Rattle.hh_devices.specs.DeviceChanges.{DeviceChange}
use Rattle.hh_reports.specs.declared.fault.ReportFault.{ReportFault}
use Rattle.hh_reports.proofs.OutputLaws.{stopped_before, Stops}

-- the first elements of a list, and one more
pub next_place : {X : Type 0} (xs : List X) (i : ℕ) (x : X) → i < length xs → x ≡ get_or xs i x → take i xs ++ x ∷ [] ≡ take (i + 1) xs
next_place xs i x inside is = ap (λ y. take i xs ++ y ∷ []) is ∙ sym (take_more xs i x inside)

-- those, and the rest of the list
pub whole : {X : Type 0} (xs : List X) (i : ℕ) (x : X) → i < length xs → x ≡ get_or xs i x → (take i xs ++ x ∷ []) ++ drop (i + 1) xs ≡ xs
whole xs i x inside is = ap (λ front. front ++ drop (i + 1) xs) (next_place xs i x inside is) ∙ take-append-drop (i + 1) xs

-- a beginning of a text went out, and the rest never does
pub stopped_early : (device : DeviceChange) (begun more text : List ℕ) (fault : ReportFault) → begun ++ more ≡ text → Stops device begun fault → Stops device text fault
stopped_early device begun more text fault is now = subst (λ t. Stops device t fault) is (stopped_before device [] begun more fault now)

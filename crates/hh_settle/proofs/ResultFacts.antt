-- What holds of a result, and what follows from it.
use Rattle.std.proofs.Common.{◌≡◌, Result, Ok, Err, IfErr, OnOk, subst}

pub OnOk-map : {T E : Type 0} (r : Result T E) (P Q : Type 0) → (P → Q) → OnOk r P → OnOk r Q
OnOk-map (Ok x) P Q f p = f p
OnOk-map (Err e) P Q f p = tt

-- what holds for the fault of a result, if the fault is known
pub at_err : {T E : Type 0} (P : E → Type 0) (r : Result T E) (e : E) → r ≡ Err e → IfErr r P → P e
at_err P r e is holds = subst (λ s. IfErr s P) is holds

-- Tables in memory fail only if memory is refused, which doesn't count as a refusal of the store.
use Rattle.std.proofs.Common.{◌≡◌, ℕ, List, Result, Ok, Err, refl, sym, subst}
use Rattle.std.specs.Prelude.{IfErr}
use Rattle.hh_devices.specs.DeviceChanges.{DeviceChange}
use Rattle.hh_states.specs.Content.{Content}
use Rattle.hh_states.specs.Soundness.{AreSound, SoundStates}
use Rattle.hh_kept_rows.specs.Outputs.{CountsOutcome, Outputs}
use Rattle.hh_kept_rows.specs.Reached.{AreReached}
use Rattle.hh_kept_rows.specs.StoreFaults.{CountsRefusal}
use Rattle.hh_kept_rows.specs.output_fault.OutputFault.{OutputFault}
use Rattle.hh_kept_rows.specs.store_fault.StoreFault.{StoreFault}
use Rattle.hh_kept_rows.specs.store_fault.StoreFault.TheVariants.{Memory}

-- a call that fails only if memory is refused counts no refusal
pub memory_counts_nothing : {A : Type 0} (n : ℕ) (result : Result A StoreFault) → IfErr result (λ fault. fault ≡ Memory) → CountsRefusal result n n
memory_counts_nothing n (Ok x) alone = refl
memory_counts_nothing {A} n (Err fault) alone = subst (λ (f : StoreFault). CountsRefusal {A = A} (Err f) n n) (sym alone) refl

-- what is registered and in force in the tables of a reached state is sound
pub reached_sound : SoundStates → (content : Content) → AreReached content → AreSound content.registered
reached_sound law content (midnight, s, stands) =
    subst (λ (c : Content). AreSound c.registered) (sym stands.1) (law midnight s stands.0)

-- what a sink counts when a report is written from rows
pub outputs_count : {A : Type 0} (device : DeviceChange) (text : List ℕ) (result : Result A OutputFault)
    → Outputs device text result → CountsOutcome device result
outputs_count device text (Ok x) went = went.1
outputs_count device text (Err fault) went = went.1

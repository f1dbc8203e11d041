-- What goes out and what is held back, in several calls.
use Rattle.std.proofs.Common.{◌≡◌, ℕ, ◌+◌, ◌<◌, List, [], ◌∷◌, ◌++◌, length, take, drop, get_or, Option, Some, None, Result, Ok, Err, refl, sym, ap, subst, ◌∙◌, append_assoc, arith}
use Rattle.std.specs.Io.KnownBytes.{Appends}
use Rattle.std.specs.Prelude.{IsErrAnd, OnOk}
use Rattle.std.specs.List.{flat_map}
use Rattle.std.proofs.lemmas.List.{append-nil, take-append-drop, take_more}
use Rattle.std.proofs.lemmas.List.Concat.{flat_map-append}
use Rattle.hh_devices.specs.DeviceChanges.{DeviceChange}
use Rattle.hh_devices.specs.Devices.{AppendsFront, Failed}
use Rattle.hh_reports.specs.declared.fault.ReportFault.{ReportFault}
use Rattle.hh_reports.specs.declared.fault.ReportFault.TheVariants.{Memory, Write}
use Rattle.hh_reports.specs.Output.{CountsFault, IsPassed, IsShort, Reaches, Sends}
use Rattle.hh_reports.specs.steps.Output.{Passes}

appends_none : (a : Option (List ℕ)) → Appends a a []
appends_none None = tt
appends_none (Some x) = sym (append-nil x)

appends_more : (a b c : Option (List ℕ)) (s t : List ℕ) → Appends a b s → Appends b c t → Appends a c (s ++ t)
appends_more None b c s t h k = tt
appends_more (Some x) None c s t h k = absurd h
appends_more (Some x) (Some y) None s t h k = absurd k
appends_more (Some x) (Some y) (Some z) s t h k = rw (k, h) (append_assoc x s t)

-- the device's change: a sink had taken a and then b, and had counted f failures and then g
abbrev pub changed : Option (List ℕ) → Option (List ℕ) → ℕ → ℕ → DeviceChange
changed a b f g = record { old = a; new = b; old_failures = f; new_failures = g }

-- a beginning of a text went out, and then a fault was told
abbrev pub Stops : DeviceChange → List ℕ → ReportFault → Type 0
Stops device text fault = AppendsFront device.old device.new text × CountsFault device fault

counted_on : (fault : ReportFault) (a b c : Option (List ℕ)) (f g n : ℕ) → g ≡ f → CountsFault (changed b c g n) fault → CountsFault (changed a c f n) fault
counted_on Memory a b c f g n same counts = counts ∙ same
counted_on Write a b c f g n same counts = subst (λ m. Failed m n) same counts

-- nothing went out
pub held_back : (a : Option (List ℕ)) (h : List ℕ) (f : ℕ) → IsShort h → IsPassed (changed a a f f) h h
held_back a h f short = record { gone = []; went = appends_none a; rest = refl; short = short; well = refl }

-- a page went out
pub passed : {A : Type 0} (device : DeviceChange) (h k : List ℕ) (r : Result A ReportFault) → Sends device h r → OnOk r (k ≡ []) → Passes device k h r
passed device h k (Ok x) now empty = record { gone = h; went = now.0; rest = sym (append-nil h) ∙ ap (λ u. h ++ u) (sym empty); short = subst IsShort (sym empty) (omega arith); well = now.1 }
passed device h k (Err fault) now empty = now

-- a text stops, behind one that went out or is held back
pub stopped_on : (a b c : Option (List ℕ)) (h k : List ℕ) (f g n : ℕ) (s t : List ℕ) (fault : ReportFault)
    → IsPassed (changed a b f g) k (h ++ s) → Stops (changed b c g n) (k ++ t) fault → Stops (changed a c f n) (h ++ (s ++ t)) fault
stopped_on a b c h k f g n s t fault before now =
    let (front, rest, cut, sent) = now.0 in (
      (
        before.gone ++ front,
        rest,
        sym (append_assoc h s t) ∙ ap (λ u. u ++ t) before.rest ∙ append_assoc before.gone k t ∙ ap (λ u. before.gone ++ u) cut
            ∙ sym (append_assoc before.gone front rest),
        appends_more a b c before.gone front before.went sent,
      ),
      counted_on fault a b c f g n before.well now.1,
    )

pub went_on : (a b c : Option (List ℕ)) (h k m : List ℕ) (f g n : ℕ) (s t : List ℕ)
    → IsPassed (changed a b f g) k (h ++ s) → IsPassed (changed b c g n) m (k ++ t) → IsPassed (changed a c f n) m (h ++ (s ++ t))
went_on a b c h k m f g n s t before now =
    record {
      gone = before.gone ++ now.gone;
      went = appends_more a b c before.gone now.gone before.went now.went;
      rest = sym (append_assoc h s t) ∙ ap (λ u. u ++ t) before.rest ∙ append_assoc before.gone k t ∙ ap (λ u. before.gone ++ u) now.rest
          ∙ sym (append_assoc before.gone now.gone m);
      short = now.short;
      well = now.well ∙ before.well;
    }

pub written_on : {A : Type 0} (a b c : Option (List ℕ)) (h k m : List ℕ) (f g n : ℕ) (s t : List ℕ) (r : Result A ReportFault)
    → IsPassed (changed a b f g) k (h ++ s) → Passes (changed b c g n) m (k ++ t) r → Passes (changed a c f n) m (h ++ (s ++ t)) r
written_on a b c h k m f g n s t (Ok x) before now = went_on a b c h k m f g n s t before now
written_on a b c h k m f g n s t (Err fault) before now = stopped_on a b c h k f g n s t fault before now

-- a text that was not written to its end, with more text to follow
pub stopped_before : (device : DeviceChange) (h s t : List ℕ) (fault : ReportFault)
    → Stops device (h ++ s) fault → Stops device (h ++ (s ++ t)) fault
stopped_before device h s t fault now =
    let (front, rest, cut, sent) = now.0 in
    ((front, rest ++ t, sym (append_assoc h s t) ∙ ap (λ u. u ++ t) cut ∙ append_assoc front rest t, sent), now.1)

-- the fault of a call is passed on
pub told_on : {A : Type 0} (device : DeviceChange) (k all : List ℕ) (fault : ReportFault) (r : Result A ReportFault)
    → IsErrAnd r (λ e. e ≡ fault) → Stops device all fault → Passes device k all r
told_on device k all fault (Ok x) is now = absurd is
told_on device k all fault (Err e) is now = (now.0, subst (CountsFault device) (sym is) now.1)

-- a fault that ends a report
pub told_out : {A : Type 0} (device : DeviceChange) (text : List ℕ) (fault : ReportFault) (r : Result A ReportFault)
    → IsErrAnd r (λ e. e ≡ fault) → Stops device text fault → Sends device text r
told_out device text fault (Ok x) is now = absurd is
told_out device text fault (Err e) is now = (now.0, subst (CountsFault device) (sym is) now.1)

-- the last page of a text
pub finished : {A : Type 0} (a b c : Option (List ℕ)) (k : List ℕ) (f g n : ℕ) (text : List ℕ) (r : Result A ReportFault)
    → IsPassed (changed a b f g) k text → Sends (changed b c g n) k r → Sends (changed a c f n) text r
finished a b c k f g n text (Ok x) before now =
    (subst (λ u. Appends a c u) (sym before.rest) (appends_more a b c before.gone k before.went now.0), now.1 ∙ before.well)
finished a b c k f g n text (Err fault) before now =
    let (front, rest, cut, sent) = now.0 in (
      (
        before.gone ++ front,
        rest,
        before.rest ∙ ap (λ u. before.gone ++ u) cut ∙ sym (append_assoc before.gone front rest),
        appends_more a b c before.gone front before.went sent,
      ),
      counted_on fault a b c f g n before.well now.1,
    )

-- nothing follows the text
pub at_the_end : {A : Type 0} (device : DeviceChange) (h k text : List ℕ) (r : Result A ReportFault)
    → Passes device k (h ++ text) r → Passes device k (h ++ (text ++ [])) r
at_the_end device h k text r now = rw (append-nil text) now

-- The lines of the elements of a list, one after the other.
module _ {X : Type 0} (line : X → List ℕ) (xs : List X) (i : ℕ) (x : X) (inside : i < length xs) (is : x ≡ get_or xs i x) where
  lines_next : flat_map line (take (i + 1) xs) ≡ flat_map line (take i xs) ++ line x
  lines_next =
      ap (flat_map line) (take_more xs i x inside) ∙ flat_map-append line (take i xs) (get_or xs i x ∷ [])
      ∙ ap (λ last. flat_map line (take i xs) ++ last) (append-nil (line (get_or xs i x)) ∙ ap line (sym is))

  lines_whole : flat_map line xs ≡ (flat_map line (take i xs) ++ line x) ++ flat_map line (drop (i + 1) xs)
  lines_whole =
      ap (flat_map line) (sym (take-append-drop (i + 1) xs)) ∙ flat_map-append line (take (i + 1) xs) (drop (i + 1) xs)
      ∙ ap (λ first. first ++ flat_map line (drop (i + 1) xs)) lines_next

  -- the line of one more element
  pub lines_more : (a b c : Option (List ℕ)) (h k m : List ℕ) (f g n : ℕ)
      → IsPassed (changed a b f g) k (h ++ flat_map line (take i xs)) → IsPassed (changed b c g n) m (k ++ line x)
      → IsPassed (changed a c f n) m (h ++ flat_map line (take (i + 1) xs))
  lines_more a b c h k m f g n before now =
      rw lines_next (went_on a b c h k m f g n (flat_map line (take i xs)) (line x) before now)

  -- a beginning of the lines went out, and the rest never does
  pub lines_stopped : (a b c : Option (List ℕ)) (h k : List ℕ) (f g n : ℕ) (fault : ReportFault)
      → IsPassed (changed a b f g) k (h ++ flat_map line (take i xs)) → Stops (changed b c g n) (k ++ line x) fault
      → Stops (changed a c f n) (h ++ flat_map line xs) fault
  lines_stopped a b c h k f g n fault before now =
      rw lines_whole
      (stopped_before (changed a c f n) h (flat_map line (take i xs) ++ line x) (flat_map line (drop (i + 1) xs)) fault
      (stopped_on a b c h k f g n (flat_map line (take i xs)) (line x) fault before now))

-- the fault of a call that begins a report or goes on with it is passed on
pub told_back : {A : Type 0} (device : DeviceChange) (Is : A → Type 0) (all : List ℕ) (fault : ReportFault) (r : Result A ReportFault)
    → IsErrAnd r (λ e. e ≡ fault) → Stops device all fault → Reaches device Is all r
told_back device Is all fault (Ok x) is now = absurd is
told_back device Is all fault (Err e) is now = (now.0, subst (CountsFault device) (sym is) now.1)

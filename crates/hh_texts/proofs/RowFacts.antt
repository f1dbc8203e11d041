-- The rows of a file, one after another.
use Rattle.std.proofs.Common.{◌≡◌, ℕ, zero, suc, ◌+◌, ◌<◌, ◌≤◌, Bool, true, false, cond, List, [], ◌∷◌, ◌++◌, length, Some, None, drop, Result, Ok, Err, ◌≢◌, refl, sym, ap, ◌∙◌, arith, append-nil, append_assoc, ltb, eqb, nat_eq, not, ◌&&◌, map, get_or, Bor, add-one}
use Rattle.std.specs.Prelude.{Option, find, option_map}
use Rattle.std.proofs.lemmas.Bool.Decides.{nat_tests}
use Rattle.std.proofs.lemmas.List.{length-map}
use Rattle.hh_names.specs.declared.fault.Fault.{Fault}
use Rattle.hh_names.specs.declared.fault.Refusal.TheVariants.{BadHeader, TooManyRows, BadRecord}
use Rattle.hh_names.specs.Faults.{plain_fault, row_fault, field_fault}
use Rattle.csv.specs.Records.{field_at}
use Rattle.std.specs.Cmp.Lexicographic.{pointwise}
use Rattle.hh_texts.specs.Records.{records_of}
use Rattle.hh_texts.specs.Rows.{FileForm, form_under, rows_by, rows_from, rows_under, rows_of, same_fields, row_with}

-- rows with others before them
abbrev pub behind : {Row : Type 0} → List Row → Result (List Row) Fault → Result (List Row) Fault
behind front (Ok rows) = Ok (front ++ rows)
behind front (Err e) = Err e

behind-more : {Row : Type 0} (front : List Row) (row : Row) (rows : Result (List Row) Fault) → behind (front ++ row ∷ []) rows ≡ behind front (row_with (Ok row) rows)
behind-more front row (Ok rows) = ap Ok (append_assoc front (row ∷ []) rows)
behind-more front row (Err e) = refl

-- All the rows, from the rows in front and the records that are left.
pub all-end : {Row : Type 0} (columns n : ℕ) (row_of : List (List ℕ) → Result Row ℕ) (front : List Row) (left : List (List (List ℕ))) (all : Result (List Row) Fault)
    → behind front (rows_from columns row_of n left) ≡ all → left ≡ [] → all ≡ Ok front
unfolding rows_from
all-end columns n row_of front left all h e = sym (rw e at h) ∙ ap Ok (append-nil front)

pub all-many : {Row : Type 0} (columns n : ℕ) (row_of : List (List ℕ) → Result Row ℕ) (front : List Row) (left rest : List (List (List ℕ))) (fields : List (List ℕ)) (all : Result (List Row) Fault)
    → behind front (rows_from columns row_of n left) ≡ all → left ≡ fields ∷ rest → 20000 < n → all ≡ Err (plain_fault TooManyRows)
unfolding rows_from
all-many columns n row_of front left rest fields all h e many =
    let past : ltb 20000 n ≡ true = grind (arith, nat_tests) in
    sym (rw (e, past) at h)

pub all-length : {Row : Type 0} (columns n : ℕ) (row_of : List (List ℕ) → Result Row ℕ) (front : List Row) (left rest : List (List (List ℕ))) (fields : List (List ℕ)) (all : Result (List Row) Fault)
    → behind front (rows_from columns row_of n left) ≡ all → left ≡ fields ∷ rest → n ≤ 20000 → length fields ≢ columns → all ≡ Err (row_fault BadRecord n)
unfolding rows_from
all-length columns n row_of front left rest fields all h e few other =
    let past : ltb 20000 n ≡ false = grind (arith, nat_tests) in
    let differ : eqb (length fields) columns ≡ false = grind (arith, nat_tests) in
    sym (rw (e, past, differ) at h)

pub all-field : {Row : Type 0} (columns n column : ℕ) (row_of : List (List ℕ) → Result Row ℕ) (front : List Row) (left rest : List (List (List ℕ))) (fields : List (List ℕ)) (all : Result (List Row) Fault)
    → behind front (rows_from columns row_of n left) ≡ all → left ≡ fields ∷ rest → n ≤ 20000 → length fields ≡ columns → row_of fields ≡ Err column → all ≡ Err (field_fault n column)
unfolding rows_from
all-field columns n column row_of front left rest fields all h e few same bad =
    let past : ltb 20000 n ≡ false = grind (arith, nat_tests) in
    let fits : eqb (length fields) columns ≡ true = grind (arith, nat_tests) in
    sym (rw (e, past, fits, bad) at h)

pub all-row : {Row : Type 0} (columns n : ℕ) (row_of : List (List ℕ) → Result Row ℕ) (front : List Row) (row : Row) (left rest : List (List (List ℕ))) (fields : List (List ℕ)) (all : Result (List Row) Fault)
    → behind front (rows_from columns row_of n left) ≡ all → left ≡ fields ∷ rest → n ≤ 20000 → length fields ≡ columns → row_of fields ≡ Ok row
    → behind (front ++ row ∷ []) (rows_from columns row_of (n + 1) rest) ≡ all
unfolding rows_from
all-row columns n row_of front row left rest fields all h e few same read =
    let past : ltb 20000 n ≡ false = grind (arith, nat_tests) in
    let fits : eqb (length fields) columns ≡ true = grind (arith, nat_tests) in
    behind-more front row (rows_from columns row_of (n + 1) rest) ∙ rw (e, past, fits, read) at h

-- a form has as many columns as its header has names
pub names-columns : (header : List (Bor (List ℕ))) (names : List (List ℕ)) → map (λ name. name.now) header ≡ names → length names ≡ length header
names-columns header names e = ap length (sym e) ∙ length-map header (λ name. name.now)

-- A record compared with the names, field by field.
pub same_fields-drop : (fields : List (List ℕ)) (names : List (Bor (List ℕ))) (i : ℕ) (field name : List ℕ) (d : Bor (List ℕ)) → i < length names → field_at fields i ≡ Some field → name ≡ (get_or names i d).now
    → same_fields (drop i fields) (drop i (map (λ name. name.now) names))
    ≡ (pointwise nat_eq field name && same_fields (drop (i + 1) fields) (drop (i + 1) (map (λ name. name.now) names)))
unfolding field_at
same_fields-drop [] names i field name d lt h e = cc h
same_fields-drop (f ∷ fs) [] i field name d lt h e = absurd (omega arith)
same_fields-drop (f ∷ fs) (n ∷ ns) zero field name d lt h e = let same : f ≡ field = cc h in rw (same, e) refl
same_fields-drop (f ∷ fs) (n ∷ ns) (suc i) field name d lt h e = simp add-one (simp add-one at (same_fields-drop fs ns i field name d (omega arith) h e))

pub field_at-none : (fields : List (List ℕ)) (i : ℕ) → i < length fields → field_at fields i ≡ None → ⊥
unfolding field_at
field_at-none [] i lt h = omega arith
field_at-none (f ∷ fs) zero lt h = cc h
field_at-none (f ∷ fs) (suc i) lt h = field_at-none fs i (omega arith) h

-- the rows of a file, by its records and the form that has its header
pub rows_of-records : {Row : Type 0} (forms : List (FileForm Row)) (bytes : List ℕ) (records : List (List (List ℕ))) → length bytes ≤ 1048576 → records ≡ records_of bytes
    → rows_of forms bytes ≡ rows_under forms records
unfolding rows_of
rows_of-records forms bytes records few e =
    let past : ltb 1048576 (length bytes) ≡ false = grind (arith, nat_tests) in
    rw (past, e) refl

pub rows_under-none : {Row : Type 0} (forms : List (FileForm Row)) (records : List (List (List ℕ))) → records ≡ [] → rows_under forms records ≡ Err (plain_fault BadHeader)
unfolding rows_under
rows_under-none forms records e = rw e refl

pub rows_under-form : {Row : Type 0} (forms : List (FileForm Row)) (fields : List (List ℕ)) (records rest : List (List (List ℕ))) (form : Option (FileForm Row)) → records ≡ fields ∷ rest → form ≡ form_under fields forms
    → rows_under forms records ≡ rows_by form rest
unfolding rows_under
rows_under-form forms fields records rest form e h = rw e (ap (λ o. rows_by o rest) (sym h))

-- a map after another map
pub option_map-twice : {X Y Z : Type 0} (f : Y → Z) (h : X → Y) (o : Option X) → option_map (λ x. f (h x)) o ≡ option_map f (option_map h o)
option_map-twice f h None = refl
option_map-twice f h (Some x) = refl

-- the first element that passes after a map
pub find-map : {X Y : Type 0} (test : Y → Bool) (f : X → Y) (xs : List X) → find test (map f xs) ≡ option_map f (find (λ x. test (f x)) xs)
find-map test f [] = refl
find-map test f (x ∷ xs) = elim (test (f x)) as (λ b. cond b (Some (f x)) (find test (map f xs)) ≡ option_map f (cond b (Some x) (find (λ y. test (f y)) xs))) [
  | true ↦ refl
  | false ↦ find-map test f xs
]

-- a field that differs from its name decides; after one that doesn't, the rest decides
pub same_fields-differ : (fields : List (List ℕ)) (names : List (Bor (List ℕ))) (i : ℕ) (field name : List ℕ) (d : Bor (List ℕ)) → i < length names → field_at fields i ≡ Some field → name ≡ (get_or names i d).now
    → true ≡ not (pointwise nat_eq field name) → same_fields (drop i fields) (drop i (map (λ n. n.now) names)) ≡ false
same_fields-differ fields names i field name d lt h e other = same_fields-drop fields names i field name d lt h e ∙ go (pointwise nat_eq field name) other
  where
    go : (b : Bool) → true ≡ not b → (b && same_fields (drop (i + 1) fields) (drop (i + 1) (map (λ n. n.now) names))) ≡ false
    go false k = refl
    go true k = cc k

pub same_fields-next : (fields : List (List ℕ)) (names : List (Bor (List ℕ))) (i : ℕ) (field name : List ℕ) (d : Bor (List ℕ)) → i < length names → field_at fields i ≡ Some field → name ≡ (get_or names i d).now
    → false ≡ not (pointwise nat_eq field name)
    → same_fields (drop i fields) (drop i (map (λ n. n.now) names)) ≡ same_fields (drop (i + 1) fields) (drop (i + 1) (map (λ n. n.now) names))
same_fields-next fields names i field name d lt h e same = same_fields-drop fields names i field name d lt h e ∙ go (pointwise nat_eq field name) same
  where
    go : (b : Bool) → false ≡ not b → (b && same_fields (drop (i + 1) fields) (drop (i + 1) (map (λ n. n.now) names))) ≡ same_fields (drop (i + 1) fields) (drop (i + 1) (map (λ n. n.now) names))
    go true k = refl
    go false k = cc k

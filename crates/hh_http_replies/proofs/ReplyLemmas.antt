-- The bodies of replies: lists, and no body has a float.
use Rattle.std.proofs.Common.{◌≡◌, ◌∙◌, ◌≤◌, ◌<◌, ◌+◌, ℕ, ℤ, pos, negsuc, List, [], ◌∷◌, ◌++◌, length, get_or, map, take, Bool, true, false, Option, Some, None, Vec, Global, refl, sym, ap, arith}
use Rattle.std.specs.Prelude.{◌||◌}
use Rattle.std.proofs.Math.Seq.{take-length}
use Rattle.std.proofs.lemmas.List.{map-append, take_more}
use Rattle.serde_json.specs.Data.{Data}
use Rattle.serde_json.specs.Find.{is_float, of_integer}
use Rattle.serde_json.specs.View.{items_of, view}
use Rattle.serde_json.specs.Written.{has_float, items_have_float}
use Rattle.serde_json.specs.declared.value.Value.{Value, Array}
use Rattle.serde_json.proofs.Views.{view-Array}
use Rattle.hh_names.specs.declared.fault.Fault.{Fault}
use Rattle.hh_requests.specs.result.AccountRow.{AccountRow}
use Rattle.hh_requests.specs.declared.reply.Reply.{Reply}
use Rattle.hh_requests.specs.declared.reply.Reply.TheVariants as reply
use Rattle.hh_http_replies.specs.Bodies.{contract_body, kind_data, list_data, period_body, reply_body}

-- ---- lists

-- if values are those of the first `n` items of a list, and these are all items, they are those of the list
pub listed : {A : Type 0} (of_one : A → Data) (xs : List A) (n : ℕ) (values : Vec Value Global) → length xs ≤ n → n ≤ length xs
    → map view values.items ≡ map of_one (take n xs) → view (Array values) ≡ list_data of_one xs
listed of_one xs n values low high same =
    let whole : n ≡ length xs = omega arith in
    let all : take n xs ≡ xs = ap (λ (m : ℕ). take m xs) whole ∙ take-length xs in
    view-Array values ∙ ap (λ (ds : List Data). Data.array (items_of ds)) (same ∙ ap (map of_one) all)

-- the values of the first items of a list, with the value of the next one
pub listed_more : {A : Type 0} (of_one : A → Data) (xs : List A) (n : ℕ) (d : A) (values more : List Value) (value : Value) → n < length xs
    → more ≡ values ++ value ∷ [] → map view values ≡ map of_one (take n xs) → view value ≡ of_one (get_or xs n d)
    → map view more ≡ map of_one (take (n + 1) xs)
listed_more of_one xs n d values more value within pushed same one =
    ap (map view) pushed ∙ map-append view values (value ∷ []) ∙ (λ i. same i ++ one i ∷ [])
    ∙ sym (map-append of_one (take n xs) (get_or xs n d ∷ [])) ∙ ap (map of_one) (sym (take_more xs n d within))

-- ---- no floats

integral : (z : ℤ) → is_float (of_integer z) ≡ false
integral (pos n) = refl
integral (negsuc n) = refl

neither : (a b : Bool) → a ≡ false → b ≡ false → (a || b) ≡ false
neither true b h k = h
neither false b h k = k

none_listed : {A : Type 0} (of_one : A → Data) → ((x : A) → has_float (of_one x) ≡ false) → (xs : List A) → items_have_float (items_of (map of_one xs)) ≡ false
none_listed of_one one [] = refl
none_listed of_one one (x ∷ xs) = neither (has_float (of_one x)) (items_have_float (items_of (map of_one xs))) (one x) (none_listed of_one one xs)

period_integral : (row : ℕ × AccountRow) → has_float (period_body row) ≡ false
period_integral row = rw (integral row.1.charge, integral row.1.share) refl

places_integral : (fault : Fault) → has_float (reply_body (reply.Refused fault)) ≡ false
places_integral fault = by fault.column fault.period fault.row fault.unit
  where
    by : (column period row : Option ℕ) (unit : Option (List ℕ)) → has_float (reply_body (reply.Refused (record fault { column = column; period = period; row = row; unit = unit }))) ≡ false
    by None None None None = refl
    by None None None (Some u) = refl
    by None None (Some r) None = refl
    by None None (Some r) (Some u) = refl
    by None (Some p) None None = refl
    by None (Some p) None (Some u) = refl
    by None (Some p) (Some r) None = refl
    by None (Some p) (Some r) (Some u) = refl
    by (Some c) None None None = refl
    by (Some c) None None (Some u) = refl
    by (Some c) None (Some r) None = refl
    by (Some c) None (Some r) (Some u) = refl
    by (Some c) (Some p) None None = refl
    by (Some c) (Some p) None (Some u) = refl
    by (Some c) (Some p) (Some r) None = refl
    by (Some c) (Some p) (Some r) (Some u) = refl

-- no number in the body of a reply is a float, so its text is known
pub no_float : (given : Reply) → has_float (reply_body given) ≡ false
no_float (reply.Loaded loaded) = refl
no_float (reply.Ran run summary) = rw (integral summary.residual) refl
no_float (reply.Account r) = rw (integral r.net, none_listed period_body period_integral r.rows) refl
no_float (reply.Balance account moved) = rw (integral moved) refl
no_float (reply.Contracts r) = rw (none_listed (contract_body r.account) (λ row. refl) r.contracts) refl
no_float (reply.Runs r) = rw (none_listed kind_data (λ kind. refl) r.kinds) refl
no_float (reply.Refused fault) = places_integral fault

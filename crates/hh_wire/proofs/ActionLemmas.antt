-- What a path asks for by its route is what its parts ask for.
use Rattle.std.proofs.Common.{◌≡◌, ◌∙◌, ℕ, List, [], ◌∷◌, ◌++◌, Option, Some, None, IfSome, Bool, true, false, cond, option_map, refl, sym, ap, subst}
use Rattle.std.proofs.lemmas.List.Splits.{join_with_byte-slice_split}
use Rattle.std.proofs.lemmas.Option.{none-some, same_Some}
use Rattle.std.proofs.lemmas.Slice.Eq.{bytes_eq-Decides}
use Rattle.std.specs.List.{join_with_byte}
use Rattle.std.specs.Prelude.{bytes_eq, codes}
use Rattle.hh_time.specs.DateText.{date_value}
use Rattle.hh_names.specs.Accounts.{account_value}
use Rattle.hh_names.specs.Words.{is_file_name_byte, word_value}
use Rattle.hh_rows.specs.Kinds.{kind_value}
use Rattle.hh_runs.specs.RunKinds.{run_kind_value}
use Rattle.hh_requests.specs.declared.request.Action.{Action}
use Rattle.hh_requests.specs.declared.request.Action.TheVariants as ask
use Rattle.hh_wire.specs.steps.Paths.{BeginsWith, IsPathOf, action_of, has_two, name_of, word_of}
use Rattle.hh_wire.specs.Routes.{action_at, of_both, one_part, parts_of, two_parts}
use Rattle.hh_wire.specs.declared.router.Route.{Route}
use Rattle.hh_wire.specs.declared.router.Route.TheVariants as route
use Rattle.hh_wire.proofs.ReaderLemmas.{account_part, date_part, else_some, kind_part, name_part, run_kind_part, then_some}

-- ---- a path that asks for something is a path of a route, which asks for the same
-- a path has a route by which its parts ask for an action
abbrev Routed : List ℕ → List (List ℕ) → List ℕ → Action → Type 0
Routed path parts body x = (way : Route) × IsPathOf way path × (action_of way parts body ≡ Some x)

mapped : {A B : Type 0} (f : A → B) (o : Option A) (y : B) → option_map f o ≡ Some y → (a : A) × (o ≡ Some a)
mapped f None y e = absurd (none-some y e)
mapped f (Some a) y e = (a, refl)

both : {A B C : Type 0} (make : A → B → C) (o : Option A) (p : Option B) (y : C) → of_both make o p ≡ Some y → (a : A) × (b : B) × (o ≡ Some a) × (p ≡ Some b)
both make None p y e = absurd (none-some y e)
both make (Some a) None y e = absurd (none-some y e)
both make (Some a) (Some b) y e = (a, b, refl, refl)

by_one : (path name part body : List ℕ) (x : Action) → path ≡ 47 ∷ (name ++ 47 ∷ part) → one_part name part ≡ Some x → Routed path ([] ∷ name ∷ part ∷ []) body x
by_one path name part body x is asks = by (bytes_eq name (codes "balances")) refl (bytes_eq name (codes "runs")) refl asks
  where
    named : (word : List ℕ) → bytes_eq name word ≡ true → path ≡ 47 ∷ (word ++ 47 ∷ part)
    named word same = is ∙ ap (λ (w : List ℕ). 47 ∷ (w ++ 47 ∷ part)) ((bytes_eq-Decides name word).0 same)

    by : (v : Bool) → bytes_eq name (codes "balances") ≡ v → (w : Bool) → bytes_eq name (codes "runs") ≡ w
        → cond v (option_map ask.Balance (account_value part)) (cond w (option_map ask.Runs (date_value part)) None) ≡ Some x → Routed path ([] ∷ name ∷ part ∷ []) body x
    by true same w other here =
        let (a, reads) = mapped ask.Balance (account_value part) x here in
        (route.Balances, (part, account_part part a reads, named (codes "balances") same), here)
    by false differs true same here =
        let (d, reads) = mapped ask.Runs (date_value part) x here in
        (route.RunsOfDate, (part, date_part part d reads, named (codes "runs") same), here)
    by false differs false other here = absurd (none-some x here)

by_two : (path name first second body : List ℕ) (x : Action) → path ≡ 47 ∷ (name ++ 47 ∷ (first ++ 47 ∷ second)) → two_parts name first second body ≡ Some x
    → Routed path ([] ∷ name ∷ first ∷ second ∷ []) body x
by_two path name first second body x is asks =
    by (bytes_eq name (codes "files")) refl (bytes_eq name (codes "runs")) refl (bytes_eq name (codes "accounts")) refl (bytes_eq name (codes "contracts")) refl asks
  where
    named : (word : List ℕ) → bytes_eq name word ≡ true → path ≡ 47 ∷ (word ++ 47 ∷ (first ++ 47 ∷ second))
    named word same = is ∙ ap (λ (w : List ℕ). 47 ∷ (w ++ 47 ∷ (first ++ 47 ∷ second))) ((bytes_eq-Decides name word).0 same)

    by : (v : Bool) → bytes_eq name (codes "files") ≡ v → (w : Bool) → bytes_eq name (codes "runs") ≡ w
        → (s : Bool) → bytes_eq name (codes "accounts") ≡ s → (t : Bool) → bytes_eq name (codes "contracts") ≡ t
        → cond v (of_both (λ kind name. ask.Load (record { kind = kind; name = name; body = body })) (kind_value first) (word_value is_file_name_byte 1 64 second))
        (cond w (of_both (λ date kind. ask.Run (record { date = date; kind = kind })) (date_value first) (run_kind_value second))
        (cond s (of_both ask.Account (account_value first) (date_value second))
        (cond t (of_both ask.Contracts (account_value first) (date_value second)) None))) ≡ Some x
        → Routed path ([] ∷ name ∷ first ∷ second ∷ []) body x
    by true same w e2 s e3 t e4 here =
        let (a, b, reads, also) = both (λ kind name. ask.Load (record { kind = kind; name = name; body = body })) (kind_value first) (word_value is_file_name_byte 1 64 second) x here in
        (route.Files, (first, second, kind_part first a reads, name_part second b also, named (codes "files") same), here)
    by false e1 true same s e3 t e4 here =
        let (a, b, reads, also) = both (λ date kind. ask.Run (record { date = date; kind = kind })) (date_value first) (run_kind_value second) x here in
        (route.Runs, (first, second, date_part first a reads, run_kind_part second b also, named (codes "runs") same), here)
    by false e1 false e2 true same t e4 here =
        let (a, b, reads, also) = both ask.Account (account_value first) (date_value second) x here in
        (route.Accounts, (first, second, account_part first a reads, date_part second b also, named (codes "accounts") same), here)
    by false e1 false e2 false e3 true same here =
        let (a, b, reads, also) = both ask.Contracts (account_value first) (date_value second) x here in
        (route.Contracts, (first, second, account_part first a reads, date_part second b also, named (codes "contracts") same), here)
    by false e1 false e2 false e3 false e4 here = absurd (none-some x here)

by_parts : (path : List ℕ) (parts : List (List ℕ)) (body : List ℕ) (x : Action) → path ≡ join_with_byte 47 parts → action_at parts body ≡ Some x → Routed path parts body x
by_parts path [] body x is asks = absurd (none-some x asks)
by_parts path ((b ∷ root) ∷ rest) body x is asks = absurd (none-some x asks)
by_parts path ([] ∷ []) body x is asks = absurd (none-some x asks)
by_parts path ([] ∷ name ∷ []) body x is asks = absurd (none-some x asks)
by_parts path ([] ∷ name ∷ part ∷ []) body x is asks = by_one path name part body x is asks
by_parts path ([] ∷ name ∷ first ∷ second ∷ []) body x is asks = by_two path name first second body x is asks
by_parts path ([] ∷ name ∷ first ∷ second ∷ third ∷ rest) body x is asks = absurd (none-some x asks)

has_route : (path body : List ℕ) (x : Action) → action_at (parts_of path) body ≡ Some x → Routed path (parts_of path) body x
has_route path body x asks = by_parts path (parts_of path) body x (sym (join_with_byte-slice_split 47 path)) asks

-- ---- what a path asks for by the route whose word it begins with, its parts ask for
asks_same : (way : Route) (parts : List (List ℕ)) (body : List ℕ) (x : Action) → action_of way ([] ∷ name_of way ∷ parts) body ≡ Some x
    → action_at ([] ∷ name_of way ∷ parts) body ≡ Some x
asks_same way [] body x asks = absurd (none-some x asks)
asks_same way (part ∷ []) body x asks = (else_some (has_two way) (one_part (name_of way) part) x asks).1
asks_same way (first ∷ second ∷ []) body x asks = (then_some (has_two way) (two_parts (name_of way) first second body) x asks).1
asks_same way (first ∷ second ∷ third ∷ rest) body x asks = absurd (none-some x asks)

parts_behind : (way : Route) (rest : List ℕ) → parts_of (word_of way ++ rest) ≡ [] ∷ name_of way ∷ parts_of rest
parts_behind route.Files rest = refl
parts_behind route.Runs rest = refl
parts_behind route.Accounts rest = refl
parts_behind route.Balances rest = refl
parts_behind route.Contracts rest = refl
parts_behind route.RunsOfDate rest = refl

asks_so : (way : Route) (path body : List ℕ) (x : Action) → BeginsWith way path → action_of way (parts_of path) body ≡ Some x → action_at (parts_of path) body ≡ Some x
asks_so way path body x (rest, is) asks =
    let parts : parts_of path ≡ [] ∷ name_of way ∷ parts_of rest = ap parts_of is ∙ parts_behind way rest in
    ap (λ (p : List (List ℕ)). action_at p body) parts
    ∙ asks_same way (parts_of rest) body x (sym (ap (λ (p : List (List ℕ)). action_of way p body) parts) ∙ asks)

-- ---- what a path asks for, after its route was looked up
module _ (path body : List ℕ) (found : Option Route) (known : (way : Route) → IsPathOf way path → found ≡ Some way) where
  pub asks_nothing : found ≡ None → None ≡ action_at (parts_of path) body
  asks_nothing is = by (action_at (parts_of path) body) refl
    where
      by : (o : Option Action) → action_at (parts_of path) body ≡ o → None ≡ action_at (parts_of path) body
      by None e = sym e
      by (Some x) e = let (way, has, asks) = has_route path body x e in absurd (none-some way (sym is ∙ known way has))

  pub asks_by_route : (way : Route) → found ≡ Some way → IfSome found (λ other. BeginsWith other path) → action_of way (parts_of path) body ≡ action_at (parts_of path) body
  asks_by_route way is begins = by (action_at (parts_of path) body) refl (action_of way (parts_of path) body) refl
    where
      begun : BeginsWith way path
      begun = subst (λ (o : Option Route). IfSome o (λ other. BeginsWith other path)) is begins

      by : (o : Option Action) → action_at (parts_of path) body ≡ o → (p : Option Action) → action_of way (parts_of path) body ≡ p
          → action_of way (parts_of path) body ≡ action_at (parts_of path) body
      by (Some x) e p f =
          let (other, has, asks) = has_route path body x e in
          ap (λ (w : Route). action_of w (parts_of path) body) (same_Some way other (sym is ∙ known other has)) ∙ asks ∙ sym e
      by None e None f = f ∙ sym e
      by None e (Some y) f = absurd (none-some y (sym e ∙ asks_so way path body y begun f))

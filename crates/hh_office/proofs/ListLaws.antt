-- One more request after a list of requests.
use Rattle.std.proofs.Common.{◌≡◌, ℕ, List, [], ◌∷◌, ◌++◌, map, length, take, refl, sym, ap, subst, ◌∙◌, ◌+◌, true, false, cond, length-append}
use Rattle.std.specs.Prelude.{MatchBool, filter, not, zip}
use Rattle.std.proofs.Math.Seq.{take-length}
use Rattle.std.proofs.lemmas.List.{append-nil, map-append}
use Rattle.std.proofs.lemmas.List.Elements.{filter-append}
use Rattle.hh_time.specs.Days.{Midnights}
use Rattle.hh_requests.specs.declared.reply.Reply.{Reply}
use Rattle.hh_states.specs.Content.{tables_of}
use Rattle.hh_states.specs.States.{State}
use Rattle.hh_states.specs.Steps.{IsReached}
use Rattle.hh_office.specs.Machine.{Timed, answer, next, replies_to, state_after, step}
use Rattle.hh_office.specs.Promises.{MakesTransition, HandleStep, RunAllStep, RunsAs, is_given_up, served}
use Rattle.hh_office.specs.Views.{OfficeView, midnight_of}
use Rattle.hh_office.proofs.OnceLaws.{AreNamed, served_reached}

-- one more item on either side makes one more pair
zip_more : {X Y : Type 0} (xs : List X) (ys : List Y) (x : X) (y : Y) → length ys ≡ length xs → zip (xs ++ x ∷ []) (ys ++ y ∷ []) ≡ zip xs ys ++ (x, y) ∷ []
zip_more [] [] x y same = refl
zip_more [] (b ∷ ys) x y same = absurd (cc same)
zip_more (a ∷ xs) [] x y same = absurd (cc same)
zip_more (a ∷ xs) (b ∷ ys) x y same = ap (λ rest. (a, b) ∷ rest) (zip_more xs ys x y (cc same))

-- a request that was given up is not among those served; any other is the last of them
served_more : (ts : List Timed) (rs : List Reply) (t : Timed) (r : Reply) → length rs ≡ length ts
    → served (ts ++ t ∷ []) (rs ++ r ∷ []) ≡ served ts rs ++ cond (not (is_given_up r)) ((t, r) ∷ []) []
served_more ts rs t r same =
    ap (filter (λ (x : Timed × Reply). not (is_given_up x.1))) (zip_more ts rs t r same)
    ∙ filter-append (λ (x : Timed × Reply). not (is_given_up x.1)) (zip ts rs) ((t, r) ∷ [])

replies_more : (midnight : Midnights) (s : State) (ts : List Timed) (t : Timed)
    → replies_to midnight s (ts ++ t ∷ []) ≡ replies_to midnight s ts ++ answer midnight (state_after midnight s ts) t.0 t.1 ∷ []
replies_more midnight s [] t = refl
replies_more midnight s (u ∷ ts) t = ap (λ rest. answer midnight s u.0 u.1 ∷ rest) (replies_more midnight (next midnight s u.0 u.1) ts t)

state_more : (midnight : Midnights) (s : State) (ts : List Timed) (t : Timed)
    → state_after midnight s (ts ++ t ∷ []) ≡ next midnight (state_after midnight s ts) t.0 t.1
state_more midnight s [] t = refl
state_more midnight s (u ∷ ts) t = state_more midnight (next midnight s u.0 u.1) ts t

-- An office represented a state, and requests were served.
module _ (old : OfficeView) (s : State) where
  -- the replies and the tables are the machine's
  abbrev Served : List (Timed × Reply) → OfficeView → Type 0
  Served done now =
      (map (λ x. x.1) done ≡ replies_to (midnight_of old) s (map (λ x. x.0) done))
      × (now ≡ record old { content = tables_of (midnight_of old) (state_after (midnight_of old) s (map (λ x. x.0) done)) })

  -- the state after the requests that were served
  abbrev so_far : List (Timed × Reply) → State
  so_far done = state_after (midnight_of old) s (map (λ x. x.0) done)

  serve_one : (done : List (Timed × Reply)) (now new : OfficeView) (t : Timed) (r : Reply) → Served done now
      → MatchBool (is_given_up r) (new ≡ record old { content = tables_of (midnight_of old) (so_far done) })
      ((r ≡ answer (midnight_of old) (so_far done) t.0 t.1) × (new ≡ record old { content = tables_of (midnight_of old) (next (midnight_of old) (so_far done) t.0 t.1) }))
      → Served (done ++ cond (not (is_given_up r)) ((t, r) ∷ []) []) new
  serve_one done now new t r before =
      elim (is_given_up r) as (λ b. MatchBool b (new ≡ record old { content = tables_of (midnight_of old) (so_far done) })
      ((r ≡ answer (midnight_of old) (so_far done) t.0 t.1) × (new ≡ record old { content = tables_of (midnight_of old) (next (midnight_of old) (so_far done) t.0 t.1) }))
      → Served (done ++ cond (not b) ((t, r) ∷ []) []) new) [
        | true ↦ λ same. subst (λ d. Served d new) (sym (append-nil done)) (before.0, same)
        | false ↦ λ comes.
            let requests : map (λ (x : Timed × Reply). x.0) (done ++ (t, r) ∷ []) ≡ map (λ x. x.0) done ++ t ∷ [] = map-append (λ (x : Timed × Reply). x.0) done ((t, r) ∷ []) in (
              map-append (λ (x : Timed × Reply). x.1) done ((t, r) ∷ [])
                  ∙ (λ i. before.0 i ++ comes.0 i ∷ [])
                  ∙ sym (replies_more (midnight_of old) s (map (λ x. x.0) done) t)
                  ∙ ap (replies_to (midnight_of old) s) (sym requests),
              comes.1
                  ∙ ap (λ u. record old { content = tables_of (midnight_of old) u })
                  (sym (state_more (midnight_of old) s (map (λ x. x.0) done) t) ∙ ap (state_after (midnight_of old) s) (sym requests)),
            )
      ]

-- if the office did requests and then one more, it did all of them
pub run_more : (old now new : OfficeView) (ts : List Timed) (rs : List Reply) (t : Timed) (r : Reply)
    → AreNamed ts → RunAllStep old now ts rs → HandleStep now new t.0 t.1 r → RunAllStep old new (ts ++ t ∷ []) (rs ++ r ∷ [])
run_more old now new ts rs t r named before steps s stands =
    let ran : RunsAs old now s ts rs = before s stands in
    let done : List (Timed × Reply) = served ts rs in
    let reached : IsReached (midnight_of old) (so_far old s done) = served_reached (midnight_of old) s ts rs named stands.0 in
    let comes : MakesTransition (record old { content = tables_of (midnight_of old) (so_far old s done) }) new r (step (midnight_of old) (so_far old s done) t.0 t.1) =
    subst (λ o. HandleStep o new t.0 t.1 r) ran.tables steps (so_far old s done) (reached, refl) in
    let more : Served old s (served (ts ++ t ∷ []) (rs ++ r ∷ [])) new =
    subst (λ d. Served old s d new) (sym (served_more ts rs t r ran.count)) (serve_one old s done now new t r (ran.replies, ran.tables) comes) in
    record {
      count = length-append rs (r ∷ []) ∙ ap (λ n. n + 1) ran.count ∙ sym (length-append ts (t ∷ []));
      replies = more.0;
      tables = more.1;
    }

-- requests up to the end are all requests
pub run_to_the_end : (old new : OfficeView) (ts : List Timed) (rs : List Reply) (count : ℕ) → count ≡ length ts
    → RunAllStep old new (take count ts) rs → RunAllStep old new ts rs
run_to_the_end old new ts rs count end run = subst (λ done. RunAllStep old new done rs) (ap (λ n. take n ts) end ∙ take-length ts) run

-- the same for their names
pub all_named : (ts : List Timed) (count : ℕ) → count ≡ length ts → AreNamed (take count ts) → AreNamed ts
all_named ts count end = subst AreNamed (ap (λ n. take n ts) end ∙ take-length ts)

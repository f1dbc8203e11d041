-- What is selected by one key after the other.
use Rattle.std.proofs.Common.{◌≡◌, ◌∙◌, ℕ, ◌+◌, ◌<◌, ◌++◌, List, [], ◌∷◌, Ok, Result, ap, get_or, length, sym, take}
use Rattle.std.specs.List.{flat_map}
use Rattle.std.proofs.lemmas.List.{flat_map_more, take_more}
use Rattle.sqlite_schema.specs.declared.schema.Schema.{Schema}
use Rattle.sqlite.specs.Effect.{Database}
use Rattle.sqlite.specs.State.{State}
use Rattle.hh_sqltables.specs.Frames.{OfOfficeOf, OfSettledOf, ReadsSettledOf}
use Rattle.hh_sqltables.proofs.FrameLaws.{found_first, found_last}

-- one more key
module _ {N E : Type 0} (schema : Schema) (rows : Database → N → List E) (old mid new : State) {X F Y G : Type 0} (x : X) (r : Result Y G)
    (first : ReadsSettledOf {X = X} {E = F} schema old mid (Ok x)) (last : ReadsSettledOf schema mid new r) (names : List N) (i : ℕ) (name : N) (inside : i < length names) (is : name ≡ get_or names i name) where
  flat_more : (db : Database) → flat_map (rows db) (take i names) ++ rows db name ≡ flat_map (rows db) (take (i + 1) names)
  flat_more db = flat_map_more (rows db) [] (take i names) name ∙ ap (flat_map (rows db)) (ap (λ n. take i names ++ n ∷ []) is ∙ sym (take_more names i name inside))

  pub selects_more : (before more after : List E) → OfSettledOf schema old mid (before ≡ flat_map (rows old.now) (take i names)) → OfOfficeOf schema mid new (more ≡ rows mid.now name)
      → after ≡ before ++ more → OfSettledOf schema old new (after ≡ flat_map (rows old.now) (take (i + 1) names))
  selects_more before more after so_far found became stands office settled =
      became
      ∙ (λ j. found_first schema old mid new (λ up. last.stood up) (before ≡ flat_map (rows old.now) (take i names)) so_far stands office settled j
      ++ found_last schema old mid new x r first last (λ db. more ≡ rows db name) (λ up is all. found up is) stands office settled j)
      ∙ flat_more old.now

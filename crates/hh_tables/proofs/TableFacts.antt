-- The table after an insertion into a tree, and that the insertion can be undone.
use Rattle.std.proofs.Common.{◌≡◌, ◌+◌, List, [], ◌∷◌, length, refl, sym, ap, subst, ◌∙◌, cond, Bool, true, false, Ordering, arith}
use Rattle.std.specs.Prelude.{Option, Some, None, is_some, unwrap_or, Result, Ok, Err, OnOk, OnErr, T}
use Rattle.std.specs.Option.{MatchOption}
use Rattle.std.specs.BTreeMap.{insert_entry, is_at}
use Rattle.std.specs.Map.{lookup, remove_entry, set_value}
use Rattle.std.specs.Cmp.{IsTotalOrder, eq_by_cmp_equiv}
use Rattle.std.specs.FinMap.{put, is_sorted}
use Rattle.std.specs.FinMap.Entries.{is_sorted-put}
use Rattle.std.specs.Ordering.{match_ordering, is_eq}
use Rattle.std.specs.declared.cmp.Ordering.TheVariants.{Less, Equal, Greater}
use Rattle.hh_tables.specs.Tables.{IsTable}
use Rattle.hh_tables.proofs.TableLaws.{insert_entry-put}

true_from : (b : Bool) → T b → b ≡ true
true_from true h = refl
true_from false h = absurd h

-- a table stays a table
pub put_table : {K V : Type 0} {R : K → K → Ordering} → IsTotalOrder R → (k : K) (v : V) (es new : List (K × V)) → IsTable R es → new ≡ insert_entry R es k v → IsTable R new
put_table {K} {V} {R} o k v es new h e = subst (λ rows. IsTable R rows) (sym (e ∙ insert_entry-put R k v es)) (true_from (is_sorted R (put R k v es)) (is_sorted-put R o k v es (subst T (sym h) tt)))

-- undoing an insertion
module _ {K V : Type 0} {R : K → K → Ordering} (o : IsTotalOrder R) (k : K) (v : V) where
  ties : is_at (R k) k ≡ true
  ties = (eq_by_cmp_equiv o).refl k

  removed : (es : List (K × V)) → lookup (is_at (R k)) es ≡ None → remove_entry (is_at (R k)) (insert_entry R es k v) ≡ es
  removed [] none = ap (λ b. cond b [] ((k, v) ∷ [])) ties
  removed (e ∷ es) none = elim (R k e.0) as (λ r. R k e.0 ≡ r → cond (is_eq r) (Some e.1) (lookup (is_at (R k)) es) ≡ None
      → remove_entry (is_at (R k)) (match_ordering r ((k, v) ∷ e ∷ es) ((e.0, v) ∷ es) (e ∷ insert_entry R es k v)) ≡ e ∷ es) [
        | Less ↦ λ is n. ap (λ b. cond b (e ∷ es) ((k, v) ∷ remove_entry (is_at (R k)) (e ∷ es))) ties
        | Equal ↦ λ is n. cc
        | Greater ↦ λ is n. ap (λ b. cond b (insert_entry R es k v) (e ∷ remove_entry (is_at (R k)) (insert_entry R es k v))) (ap is_eq is) ∙ ap (λ more. e ∷ more) (removed es n)
      ] refl none

  restored : (w : V) (es : List (K × V)) → lookup (is_at (R k)) es ≡ Some w → length (insert_entry R es k v) ≡ length es → set_value (is_at (R k)) (insert_entry R es k v) w ≡ es
  restored w [] some same = cc
  restored w (e ∷ es) some same = elim (R k e.0) as (λ r. R k e.0 ≡ r → cond (is_eq r) (Some e.1) (lookup (is_at (R k)) es) ≡ Some w
      → length (match_ordering r ((k, v) ∷ e ∷ es) ((e.0, v) ∷ es) (e ∷ insert_entry R es k v)) ≡ length (e ∷ es)
      → set_value (is_at (R k)) (match_ordering r ((k, v) ∷ e ∷ es) ((e.0, v) ∷ es) (e ∷ insert_entry R es k v)) w ≡ e ∷ es) [
        | Less ↦ λ is s n. absurd (omega arith)
        | Equal ↦ λ is s n. ap (λ b. cond b ((e.0, w) ∷ es) ((e.0, v) ∷ set_value (is_at (R k)) es w)) (ap is_eq is) ∙ ap (λ x. (e.0, unwrap_or x w) ∷ es) (sym s)
        | Greater ↦ λ is s n. ap (λ b. cond b ((e.0, w) ∷ insert_entry R es k v) (e ∷ set_value (is_at (R k)) (insert_entry R es k v) w)) (ap is_eq is)
            ∙ ap (λ more. e ∷ more) (restored w es s (omega arith))
      ] refl some same

  pub put_back_undoes : (es new back : List (K × V)) (before : Option V) → before ≡ lookup (is_at (R k)) es → new ≡ insert_entry R es k v
      → length new ≡ length es + cond (is_some before) 0 1
      → MatchOption before (back ≡ remove_entry (is_at (R k)) new) (λ w. back ≡ set_value (is_at (R k)) new w) → back ≡ es
  put_back_undoes es new back None was is more undone = undone ∙ ap (remove_entry (is_at (R k))) is ∙ removed es (sym was)
  put_back_undoes es new back (Some w) was is more undone =
      undone ∙ ap (λ rows. set_value (is_at (R k)) rows w) is ∙ restored w es (sym was) (let n : length (insert_entry R es k v) ≡ length es + 0 = ap length (sym is) ∙ more in omega arith)

-- the same, if the insertion may have failed
pub put_ends : {K V E : Type 0} (R : K → K → Ordering) (k : K) (v : V) (es table new : List (K × V)) (r : Result (Unit {0}) E) → es ≡ table
    → OnOk r (new ≡ insert_entry R es k v) → OnOk r (new ≡ put R k v table)
put_ends R k v es table new (Ok _) is done = done ∙ insert_entry-put R k v es ∙ ap (put R k v) is
put_ends R k v es table new (Err _) is done = tt

pub put_ends_table : {K V E : Type 0} {R : K → K → Ordering} → IsTotalOrder R → (k : K) (v : V) (es new : List (K × V)) (r : Result (Unit {0}) E) → IsTable R es
    → OnOk r (new ≡ insert_entry R es k v) → OnErr r (new ≡ es) → IsTable R new
put_ends_table o k v es new (Ok _) h done failed = put_table o k v es new h done
put_ends_table {R = R} o k v es new (Err _) h done failed = subst (λ rows. IsTable R rows) (sym failed) h

-- two insertions, one after the other
module _ {K V E : Type 0} (R : K → K → Ordering) (first second : K × V) (es table new : List (K × V)) (r : Result (Unit {0}) E) where
  pub puts_two : es ≡ table → OnOk r (new ≡ insert_entry R (insert_entry R es first.0 first.1) second.0 second.1)
      → OnOk r (new ≡ put R second.0 second.1 (put R first.0 first.1 table))
  puts_two is done =
      put_ends R second.0 second.1 (insert_entry R es first.0 first.1) (put R first.0 first.1 table) new r
      (insert_entry-put R first.0 first.1 es ∙ ap (put R first.0 first.1) is) done

pub puts_two_table : {K V E : Type 0} {R : K → K → Ordering} → IsTotalOrder R → (first second : K × V) (es new : List (K × V)) (r : Result (Unit {0}) E) → IsTable R es
    → OnOk r (new ≡ insert_entry R (insert_entry R es first.0 first.1) second.0 second.1) → OnErr r (new ≡ es) → IsTable R new
puts_two_table o first second es new (Ok _) h done failed = put_table o second.0 second.1 _ new (put_table o first.0 first.1 es _ h refl) done
puts_two_table {R = R} o first second es new (Err _) h done failed = subst (λ rows. IsTable R rows) (sym failed) h

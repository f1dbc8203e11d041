-- A walk through the reallocations in force from a key on, up to one that comes behind a unit's dates: it meets one to a row's lead
-- account exactly if there is one.
use Rattle.std.proofs.Common.{◌≡◌, ◌<◌, ◌≤◌, ℕ, List, [], ◌∷◌, Bool, true, false, cond, refl, sym, ap, subst, ◌∙◌, Ordering, arith, rules}
use Rattle.std.specs.Prelude.{◌==◌, nat_eq, nat_le, nat_lt, not, ◌&&◌, ◌||◌, T}
use Rattle.std.specs.Cmp.{eq_by_cmp_equiv, tied_itself}
use Rattle.std.specs.Cmp.Lexicographic.{pointwise}
use Rattle.std.specs.Cmp.Rules.{comparing}
use Rattle.std.specs.FinMap.{is_sorted}
use Rattle.std.specs.FinMap.Entries.{below_all}
use Rattle.std.specs.List.{AllByRecursion, list_any}
use Rattle.std.specs.Ordering.{MatchOrdering, eq_by_cmp, is_le, nat_cmp, ordering_reverse, ordering_then}
use Rattle.std.specs.declared.cmp.Ordering.TheVariants.{Less, Equal, Greater}
use Rattle.std.proofs.lemmas.Bool.{and_parts, leb-true, lt-ltb, ltb-true}
use Rattle.std.proofs.lemmas.Cmp.{ranked}
use Rattle.std.proofs.lemmas.Map.Lookups.{exact_bytes}
use Rattle.hh_tables.specs.Ends.{rows_from}
use Rattle.hh_tables.specs.Tables.{IsTable, Table}
use Rattle.hh_tables.proofs.MergeLaws.{from_true}
use Rattle.hh_tables.proofs.RowLaws.{first, less, second, sorted-filter}
use Rattle.hh_tables.proofs.TableLaws.{false_is_not_true}
use Rattle.hh_names.specs.Accounts.{account_cmp, bytes_cmp, is_same_account}
use Rattle.hh_names.specs.declared.values.Reallocation.{Reallocation}
use Rattle.hh_names.proofs.AccountLaws.{bytes_total}
use Rattle.hh_rows.specs.DateRanges.{holds}
use Rattle.hh_rows.specs.Keys.{reallocation_key_cmp, settlement_period_cmp, unit_period_cmp}
use Rattle.hh_rows.specs.declared.keys.ReallocationKey.{ReallocationKey}
use Rattle.hh_rows.specs.declared.rows.UnitRow.{UnitRow}
use Rattle.hh_registrations.proofs.UpToLaws.{one_unit}
use Rattle.hh_rules.specs.Refusals.{is_to_lead_of}
use Rattle.hh_rules.specs.steps.Changes.{is_past}

-- ---- orders of two fields

first_of_less : (a b : Ordering) → ordering_then a b ≡ Less → is_le a ≡ true
first_of_less Less b h = refl
first_of_less Equal b h = refl
first_of_less Greater b h = cc

first_of_le : (a b : Ordering) → is_le (ordering_then a b) ≡ true → is_le a ≡ true
first_of_le Less b h = refl
first_of_le Equal b h = refl
first_of_le Greater b h = h

le_either_way : (a : Ordering) → is_le a ≡ true → is_le (ordering_reverse a) ≡ true → a ≡ Equal
le_either_way Less up down = absurd (false_is_not_true down)
le_either_way Equal up down = refl
le_either_way Greater up down = absurd (false_is_not_true up)

ranked_le : (x y : ℕ) (a : Ordering) → MatchOrdering a (x < y) (x ≡ y) (y < x) → is_le a ≡ true → x ≤ y
ranked_le x y Less low h = omega arith
ranked_le x y Equal same h = omega arith
ranked_le x y Greater high h = absurd (false_is_not_true h)

from_either : (a b : Bool) → (a || b) ≡ true → (a ≡ true → ⊥) → b ≡ true
from_either true b h off = absurd (off refl)
from_either false b h off = h

-- equal ids are those of which neither comes first
pub same_units : (a b : List ℕ) → pointwise nat_eq a b ≡ eq_by_cmp bytes_cmp a b
same_units a b = search (comparing, rules)

-- ---- the keys of a row's unit on its dates

module _ (r : UnitRow) (k : ReallocationKey) where
  abbrev in_range : Bool
  in_range = holds r.registration.range k.unit_period.at.date

  abbrev to_lead : Bool
  to_lead = is_same_account k.account r.registration.lead

  -- the parts of the test for a reallocation to the row's lead account
  module _ (is : is_to_lead_of r k ≡ true) where
    abbrev there : (eq_by_cmp bytes_cmp k.unit_period.unit r.unit ≡ true) × (in_range ≡ true)
    there = and_parts (eq_by_cmp bytes_cmp k.unit_period.unit r.unit) in_range
        (and_parts (eq_by_cmp bytes_cmp k.unit_period.unit r.unit && in_range) to_lead is).0

    own_unit : k.unit_period.unit ≡ r.unit
    own_unit = one_unit k.unit_period.unit r.unit there.0

    abbrev held : (nat_le r.registration.range.from k.unit_period.at.date ≡ true) × (nat_le k.unit_period.at.date r.registration.range.to ≡ true)
    held = and_parts (nat_le r.registration.range.from k.unit_period.at.date) (nat_le k.unit_period.at.date r.registration.range.to) there.1

    begun : r.registration.range.from ≤ k.unit_period.at.date
    begun = leb-true r.registration.range.from k.unit_period.at.date held.0

    not_ended : k.unit_period.at.date ≤ r.registration.range.to
    not_ended = leb-true k.unit_period.at.date r.registration.range.to held.1

  -- a key that isn't one to the row's lead account, since it would have to be elsewhere
  off_by : (is_to_lead_of r k ≡ true → ⊥) → is_to_lead_of r k ≡ false
  off_by never = elim (is_to_lead_of r k) as (λ b. is_to_lead_of r k ≡ b → b ≡ false) [ true ↦ λ is. absurd (never is) | false ↦ λ is. refl ] refl

-- the unit of a key is not below that of the first key of a walk
first_unit : (start k : ReallocationKey) → is_le (reallocation_key_cmp start k) ≡ true → is_le (bytes_cmp start.unit_period.unit k.unit_period.unit) ≡ true
first_unit start k from =
    first_of_le (bytes_cmp start.unit_period.unit k.unit_period.unit) (settlement_period_cmp start.unit_period.at k.unit_period.at)
    (first_of_le (unit_period_cmp start.unit_period k.unit_period) (account_cmp start.account k.account) from)

-- ---- the walk

abbrev Reallocations : Type 0
Reallocations = Table ReallocationKey Reallocation

module _ (r : UnitRow) where
  -- one of some rows is to the row's lead account
  abbrev any_in : Reallocations → Bool
  any_in rows = list_any (λ e. is_to_lead_of r e.0) rows

  -- the unit of a key is not below the row's
  abbrev IsFromUnit : ReallocationKey → Type 0
  IsFromUnit k = is_le (bytes_cmp r.unit k.unit_period.unit) ≡ true

  -- what is left of a walk through all rows has one to the row's lead account if they have; its keys rise, and none is of a unit below
  pub record IsLeft (all left : Reallocations) : Type 0 where
    pub same : any_in left ≡ any_in all
    pub rising : T (is_sorted reallocation_key_cmp left)
    pub from : AllByRecursion (λ e. IsFromUnit e.0) left

  -- behind a key that is past the row's dates there is none
  none_behind : (e k : ReallocationKey) → IsFromUnit e → reallocation_key_cmp e k ≡ Less → is_past r e ≡ true → is_to_lead_of r k ≡ true → ⊥
  none_behind e k up below past is =
      let own : k.unit_period.unit ≡ r.unit = own_unit r k is in
      let on : is_le (unit_period_cmp e.unit_period k.unit_period) ≡ true =
      first_of_less (unit_period_cmp e.unit_period k.unit_period) (account_cmp e.account k.account) below in
      let down : is_le (bytes_cmp e.unit_period.unit r.unit) ≡ true =
      ap (λ u. is_le (bytes_cmp e.unit_period.unit u)) (sym own)
      ∙ first_of_le (bytes_cmp e.unit_period.unit k.unit_period.unit) (settlement_period_cmp e.unit_period.at k.unit_period.at) on in
      let one : e.unit_period.unit ≡ r.unit =
      sym (exact_bytes r.unit e.unit_period.unit
      (le_either_way (bytes_cmp r.unit e.unit_period.unit) up (ap is_le (sym (bytes_total.antisymm e.unit_period.unit r.unit)) ∙ down))) in
      let same : eq_by_cmp bytes_cmp e.unit_period.unit r.unit ≡ true =
      ap (λ u. eq_by_cmp bytes_cmp u r.unit) one ∙ (eq_by_cmp_equiv bytes_total).refl r.unit in
      let ended : r.registration.range.to < e.unit_period.at.date =
      ltb-true r.registration.range.to e.unit_period.at.date
      (from_either (not (eq_by_cmp bytes_cmp e.unit_period.unit r.unit)) (nat_lt r.registration.range.to e.unit_period.at.date) past (λ t. false_is_not_true (sym (ap not same) ∙ t))) in
      let tied : bytes_cmp e.unit_period.unit k.unit_period.unit ≡ Equal =
      ap (bytes_cmp e.unit_period.unit) (own ∙ sym one) ∙ tied_itself bytes_total e.unit_period.unit in
      let later : is_le (nat_cmp e.unit_period.at.date k.unit_period.at.date) ≡ true =
      first_of_le (nat_cmp e.unit_period.at.date k.unit_period.at.date) (nat_cmp e.unit_period.at.period k.unit_period.at.period)
      (sym (ap (λ u. is_le (ordering_then u (settlement_period_cmp e.unit_period.at k.unit_period.at))) tied) ∙ on) in
      let after : e.unit_period.at.date ≤ k.unit_period.at.date =
      ranked_le e.unit_period.at.date k.unit_period.at.date (nat_cmp e.unit_period.at.date k.unit_period.at.date) (ranked e.unit_period.at.date k.unit_period.at.date _ refl) later in
      let within : k.unit_period.at.date ≤ r.registration.range.to = not_ended r k is in
      absurd (omega arith)

  none_left : (e : ReallocationKey × Reallocation) (rows : Reallocations) → IsFromUnit e.0 → is_past r e.0 ≡ true → T (below_all reallocation_key_cmp e.0 rows) → any_in rows ≡ false
  none_left e [] from past below = refl
  none_left e (x ∷ rows) from past below =
      ap (λ b. b || any_in rows) (off_by r x.0 (none_behind e.0 x.0 from (less _ (first _ _ below)) past))
      ∙ none_left e rows from past (second _ _ below)

  module _ (all left : Reallocations) (is_left : IsLeft all left) where
    -- nothing is left
    pub none_found : left ≡ [] → false ≡ any_in all
    none_found is = sym (sym is_left.same ∙ ap any_in is)

    module _ (e : ReallocationKey × Reallocation) (rest : Reallocations) (is : left ≡ e ∷ rest) where
      abbrev now : IsLeft all (e ∷ rest)
      now = subst (IsLeft all) is is_left

      -- the next row is one
      pub found : is_to_lead_of r e.0 ≡ true → true ≡ any_in all
      found own = sym (sym now.same ∙ ap (λ b. b || any_in rest) own)

      -- the next row is passed
      pub next : is_to_lead_of r e.0 ≡ false → IsLeft all rest
      next off = record {
        same = ap (λ b. b || any_in rest) (sym off) ∙ now.same;
        rising = second _ _ now.rising;
        from = now.from.1;
      }

      -- the next row is past the row's dates
      pub none_past : is_to_lead_of r e.0 ≡ false → is_past r e.0 ≡ true → false ≡ any_in all
      none_past off past = sym (sym now.same ∙ ap (λ b. b || any_in rest) off ∙ none_left e rest now.from.0 past (first _ _ now.rising))

  -- the first key of the walk is of the row's unit, on a date before its dates
  module _ (start : ReallocationKey) (unit : start.unit_period.unit ≡ r.unit) (date : start.unit_period.at.date < r.registration.range.from) where
    -- a key to the row's lead account is not below the first of the walk
    not_below : (k : ReallocationKey) → is_to_lead_of r k ≡ true → is_le (reallocation_key_cmp start k) ≡ true
    not_below k is =
        let x = start.unit_period.at.date in
        let y = k.unit_period.at.date in
        let tied : bytes_cmp start.unit_period.unit k.unit_period.unit ≡ Equal = ap (bytes_cmp start.unit_period.unit) (own_unit r k is ∙ sym unit) ∙ tied_itself bytes_total start.unit_period.unit in
        let later : r.registration.range.from ≤ y = begun r k is in
        let low : x < y = omega arith in
        let earlier : nat_cmp x y ≡ Less = ap (λ b. cond b Less (cond (x == y) Equal Greater)) (lt-ltb x y low) in
        ap (λ u. is_le (ordering_then (ordering_then u (settlement_period_cmp start.unit_period.at k.unit_period.at)) (account_cmp start.account k.account))) tied
        ∙ ap (λ d. is_le (ordering_then (ordering_then d (nat_cmp start.unit_period.at.period k.unit_period.at.period)) (account_cmp start.account k.account))) earlier

    any_from : (rows : Reallocations) → any_in (rows_from reallocation_key_cmp start rows) ≡ any_in rows
    any_from [] = refl
    any_from (e ∷ rows) =
        let later : Reallocations = rows_from reallocation_key_cmp start rows in
        elim (is_le (reallocation_key_cmp start e.0)) as (λ b. is_le (reallocation_key_cmp start e.0) ≡ b → any_in (cond b (e ∷ later) later) ≡ (is_to_lead_of r e.0 || any_in rows)) [
          | true ↦ λ from. ap (λ b. is_to_lead_of r e.0 || b) (any_from rows)
          | false ↦ λ low. any_from rows ∙ ap (λ b. b || any_in rows) (sym (off_by r e.0 (λ is. false_is_not_true (sym low ∙ not_below e.0 is))))
        ] refl

    all_from : (rows : Reallocations) → AllByRecursion (λ e. IsFromUnit e.0) (rows_from reallocation_key_cmp start rows)
    all_from [] = tt
    all_from (e ∷ rows) =
        let later : Reallocations = rows_from reallocation_key_cmp start rows in
        elim (is_le (reallocation_key_cmp start e.0)) as (λ b. is_le (reallocation_key_cmp start e.0) ≡ b → AllByRecursion (λ x. IsFromUnit x.0) (cond b (e ∷ later) later)) [
          | true ↦ λ from. (subst (λ u. is_le (bytes_cmp u e.0.unit_period.unit) ≡ true) unit (first_unit start e.0 from), all_from rows)
          | false ↦ λ low. all_from rows
        ] refl

    -- the rows from the first key on are what is left of all as the walk begins
    pub at_start : (all left : Reallocations) → IsTable reallocation_key_cmp all → left ≡ rows_from reallocation_key_cmp start all → IsLeft all left
    at_start all left rising is = subst (IsLeft all) (sym is) (record {
      same = any_from all;
      rising = sorted-filter reallocation_key_cmp (λ e. is_le (reallocation_key_cmp start e.0)) all (from_true _ rising);
      from = all_from all;
    })

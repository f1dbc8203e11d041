-- Runs that are kept each with its rows: what it is to put in a run, and to read the rows of one, in the table of all rows.
use Rattle.std.proofs.Common.{◌≡◌, List, [], ◌∷◌, ◌++◌, Bool, true, false, cond, map, refl, sym, ap, subst, ◌∙◌, Option, Some, None, Ordering}
use Rattle.std.specs.Prelude.{filter_map, option_map, T}
use Rattle.std.specs.Cmp.{IsTotalOrder, alike_right, eq_by_cmp_equiv}
use Rattle.std.specs.FinMap.{find, put, is_sorted}
use Rattle.std.specs.FinMap.Entries.{below_all, by_order}
use Rattle.std.specs.List.{cons_option, flat_map, list_all}
use Rattle.std.specs.Ordering.{eq_by_cmp, is_eq, is_lt, ordering_reverse}
use Rattle.std.specs.declared.cmp.Ordering.TheVariants.{Less, Equal, Greater}
use Rattle.std.proofs.lemmas.List.{append-nil}
use Rattle.std.proofs.lemmas.List.Elements.{filter_map-append}
use Rattle.hh_tables.specs.Tables.{put_all}
use Rattle.hh_tables.proofs.MergeLaws.{put_beyond, true_from}
use Rattle.hh_tables.proofs.RowLaws.{below_less, both, equal, first, is_less, less, second}
use Rattle.hh_runs.specs.declared.run_key.RunKey.{RunKey}
use Rattle.hh_states.specs.Runs.{run_key_cmp}
use Rattle.hh_states.proofs.KeyLaws.{exact_run_keys, run_key_total}

-- the rows of a run, if there is one
abbrev pub rows_found : {W E : Type 0} → (W → List E) → Option W → List E
rows_found rows_of None = []
rows_found rows_of (Some w) = rows_of w

tied : (r : Ordering) → T (is_eq r) → r ≡ Equal
tied r h = equal r (true_from _ h)

-- a value of each row of a table
module _ {W S : Type 0} (value : W → S) where
  abbrev values : List (RunKey × W) → List (RunKey × S)
  values es = map (λ e. (e.0, value e.1)) es

  find_value : (key : RunKey) (es : List (RunKey × W)) → find run_key_cmp key (values es) ≡ option_map value (find run_key_cmp key es)
  find_value key [] = refl
  find_value key (e ∷ es) = elim (eq_by_cmp run_key_cmp key e.0) as (λ b. cond b (Some (value e.1)) (find run_key_cmp key (values es)) ≡ option_map value (cond b (Some e.1) (find run_key_cmp key es))) [
    | true ↦ refl
    | false ↦ find_value key es
  ]

  pub put_value : (key : RunKey) (w : W) (es : List (RunKey × W)) → values (put run_key_cmp key w es) ≡ put run_key_cmp key (value w) (values es)
  put_value key w [] = refl
  put_value key w (e ∷ es) = elim (run_key_cmp key e.0) as (λ r. values (by_order r ((key, w) ∷ e ∷ es) ((e.0, w) ∷ es) (e ∷ put run_key_cmp key w es))
      ≡ by_order r ((key, value w) ∷ values (e ∷ es)) ((e.0, value w) ∷ values es) ((e.0, value e.1) ∷ put run_key_cmp key (value w) (values es))) [
        | Less ↦ refl
        | Equal ↦ refl
        | Greater ↦ ap (λ l. (e.0, value e.1) ∷ l) (put_value key w es)
      ]

  pub missing_value : (key : RunKey) (es : List (RunKey × W)) → find run_key_cmp key (values es) ≡ None → find run_key_cmp key es ≡ None
  missing_value key es none = elim (find run_key_cmp key es) as (λ o. option_map value o ≡ None → o ≡ None) [
    | None ↦ λ h. refl
    | Some w ↦ λ h. cc
  ] (sym (find_value key es) ∙ none)

-- a table whose keys are in the order of their runs first; its rows are those of one run after those of the other
module _ {K V W : Type 0} {R : K → K → Ordering} (o : IsTotalOrder R) (run_of : K → RunKey)
    (by_run : (a b : K) → run_key_cmp (run_of a) (run_of b) ≡ Less → R a b ≡ Less) (rows_of : W → List (K × V)) where
  abbrev are_own : RunKey → List (K × V) → Bool
  are_own run rows = list_all (λ e. eq_by_cmp run_key_cmp (run_of e.0) run) rows

  abbrev all_rows : List (RunKey × W) → List (K × V)
  all_rows es = flat_map (λ e. rows_of e.1) es

  abbrev each_own : List (RunKey × W) → Bool
  each_own es = list_all (λ e. are_own e.0 (rows_of e.1)) es

  below_append : (k : K) (xs ys : List (K × V)) → T (below_all R k xs) → T (below_all R k ys) → T (below_all R k (xs ++ ys))
  below_append k [] ys g h = h
  below_append k (x ∷ xs) ys g h = both _ _ (first _ _ g) (below_append k xs ys (second _ _ g) h)

  -- a row is below the rows of a later run
  below_rows : (k : K) (run : RunKey) (rows : List (K × V)) → run_key_cmp (run_of k) run ≡ Less → T (are_own run rows) → T (below_all R k rows)
  below_rows k run [] before own = tt
  below_rows k run (e ∷ es) before own =
      both _ _ (is_less _ (by_run k e.0 (alike_right run_key_total (run_of e.0) run (run_of k) (tied _ (first _ _ own)) ∙ before))) (below_rows k run es before (second _ _ own))

  below_runs : (k : K) (run : RunKey) (es : List (RunKey × W)) → run_key_cmp (run_of k) run ≡ Equal → T (below_all run_key_cmp run es) → T (each_own es) → T (below_all R k (all_rows es))
  below_runs k run [] of_run below own = tt
  below_runs k run (e ∷ es) of_run below own =
      below_append k (rows_of e.1) (all_rows es)
      (below_rows k e.0 (rows_of e.1) (run_key_total.congr (run_of k) run e.0 of_run ∙ less _ (first _ _ below)) (first _ _ own))
      (below_runs k run es of_run (second _ _ below) (second _ _ own))

  -- and above those of an earlier run
  above_rows : (k : K) (run earlier : RunKey) (rows : List (K × V)) → run_key_cmp (run_of k) run ≡ Equal → run_key_cmp earlier run ≡ Less → T (are_own earlier rows)
      → T (list_all (λ x. is_lt (R x.0 k)) rows)
  above_rows k run earlier [] of_run before own = tt
  above_rows k run earlier (e ∷ es) of_run before own =
      let is_before : run_key_cmp (run_of e.0) (run_of k) ≡ Less =
      alike_right run_key_total (run_of k) run (run_of e.0) of_run ∙ run_key_total.congr (run_of e.0) earlier run (tied _ (first _ _ own)) ∙ before in
      both _ _ (is_less _ (by_run e.0 k is_before)) (above_rows k run earlier es of_run before (second _ _ own))

  -- a row that is below all of the second rows is put into the first
  put_before : (k : K) (v : V) (xs ys : List (K × V)) → T (below_all R k ys) → put R k v (xs ++ ys) ≡ put R k v xs ++ ys
  put_before k v [] [] below = refl
  put_before k v [] (y ∷ ys) below = ap (λ r. by_order r ((k, v) ∷ y ∷ ys) ((y.0, v) ∷ ys) (y ∷ put R k v ys)) (less _ (first _ _ below))
  put_before k v (x ∷ xs) ys below = elim (R k x.0) as (λ r. by_order r ((k, v) ∷ x ∷ (xs ++ ys)) ((x.0, v) ∷ (xs ++ ys)) (x ∷ put R k v (xs ++ ys))
      ≡ by_order r ((k, v) ∷ x ∷ xs) ((x.0, v) ∷ xs) (x ∷ put R k v xs) ++ ys) [
        | Less ↦ refl
        | Equal ↦ refl
        | Greater ↦ ap (λ l. x ∷ l) (put_before k v xs ys below)
      ]

  -- rows of a run are put before those of later runs, and behind those of an earlier run
  put_all_before : (run : RunKey) (rows xs : List (K × V)) (es : List (RunKey × W)) → T (are_own run rows) → T (below_all run_key_cmp run es) → T (each_own es)
      → put_all R rows (xs ++ all_rows es) ≡ put_all R rows xs ++ all_rows es
  put_all_before run [] xs es are below own = refl
  put_all_before run (row ∷ rows) xs es are below own =
      ap (put_all R rows) (put_before row.0 row.1 xs (all_rows es) (below_runs row.0 run es (tied _ (first _ _ are)) below own))
      ∙ put_all_before run rows (put R row.0 row.1 xs) es (second _ _ are) below own

  put_all_behind : (run earlier : RunKey) (rows xs ys : List (K × V)) → T (are_own run rows) → run_key_cmp earlier run ≡ Less → T (are_own earlier xs)
      → put_all R rows (xs ++ ys) ≡ xs ++ put_all R rows ys
  put_all_behind run earlier [] xs ys are before own = refl
  put_all_behind run earlier (row ∷ rows) xs ys are before own =
      ap (put_all R rows) (put_beyond o row xs ys (above_rows row.0 run earlier xs (tied _ (first _ _ are)) before own))
      ∙ put_all_behind run earlier rows xs (put R row.0 row.1 ys) (second _ _ are) before own

  -- putting in a new run puts its rows into the table of all rows
  pub rows_with : (run : RunKey) (w : W) (rows : List (K × V)) (es : List (RunKey × W)) → find run_key_cmp run es ≡ None → T (is_sorted run_key_cmp es) → T (each_own es)
      → T (are_own run rows) → rows_of w ≡ put_all R rows [] → all_rows (put run_key_cmp run w es) ≡ put_all R rows (all_rows es)
  rows_with run w rows [] new rising own are is = append-nil (rows_of w) ∙ is
  rows_with run w rows (e ∷ es) new rising own are is = elim (run_key_cmp run e.0) as (λ r. run_key_cmp run e.0 ≡ r → cond (is_eq r) (Some e.1) (find run_key_cmp run es) ≡ None
      → all_rows (by_order r ((run, w) ∷ e ∷ es) ((e.0, w) ∷ es) (e ∷ put run_key_cmp run w es)) ≡ put_all R rows (all_rows (e ∷ es))) [
        | Less ↦ λ before none.
            ap (λ l. l ++ all_rows (e ∷ es)) is
            ∙ sym (put_all_before run rows [] (e ∷ es) are (both _ _ (is_less _ before) (below_less run_key_total run e.0 es before (first _ _ rising))) own)
        | Equal ↦ λ same none. cc
        | Greater ↦ λ behind none.
            ap (λ l. rows_of e.1 ++ l) (rows_with run w rows es none (second _ _ rising) (second _ _ own) are is)
            ∙ sym (put_all_behind run e.0 rows (rows_of e.1) (all_rows es) are (run_key_total.antisymm e.0 run ∙ ap ordering_reverse behind) (first _ _ own))
      ] refl new

  -- the rows of a run stay its own
  own_put : (run : RunKey) (k : K) (v : V) (es : List (K × V)) → T (eq_by_cmp run_key_cmp (run_of k) run) → T (are_own run es) → T (are_own run (put R k v es))
  own_put run k v [] is own = both _ _ is tt
  own_put run k v (e ∷ es) is own = elim (R k e.0) as (λ r. T (are_own run (by_order r ((k, v) ∷ e ∷ es) ((e.0, v) ∷ es) (e ∷ put R k v es)))) [
    | Less ↦ both _ _ is own
    | Equal ↦ own
    | Greater ↦ both _ _ (first _ _ own) (own_put run k v es is (second _ _ own))
  ]

  own_put_all : (run : RunKey) (rows es : List (K × V)) → T (are_own run rows) → T (are_own run es) → T (are_own run (put_all R rows es))
  own_put_all run [] es are own = own
  own_put_all run (row ∷ rows) es are own = own_put_all run rows (put R row.0 row.1 es) (second _ _ are) (own_put run row.0 row.1 es (first _ _ are) own)

  own_with : (run : RunKey) (w : W) (es : List (RunKey × W)) → T (are_own run (rows_of w)) → T (each_own es) → T (each_own (put run_key_cmp run w es))
  own_with run w [] are own = both _ _ are tt
  own_with run w (e ∷ es) are own = elim (run_key_cmp run e.0) as (λ r. run_key_cmp run e.0 ≡ r → T (each_own (by_order r ((run, w) ∷ e ∷ es) ((e.0, w) ∷ es) (e ∷ put run_key_cmp run w es)))) [
    | Less ↦ λ before. both _ _ are own
    | Equal ↦ λ same. both _ _ (subst (λ k. T (are_own k (rows_of w))) (exact_run_keys run e.0 same) are) (second _ _ own)
    | Greater ↦ λ behind. both _ _ (first _ _ own) (own_with run w es are (second _ _ own))
  ] refl

  pub each_own_with : (run : RunKey) (w : W) (rows : List (K × V)) (es : List (RunKey × W)) → T (are_own run rows) → rows_of w ≡ put_all R rows [] → T (each_own es)
      → T (each_own (put run_key_cmp run w es))
  each_own_with run w rows es are is own = own_with run w es (subst (λ l. T (are_own run l)) (sym is) (own_put_all run rows [] are tt)) own

  -- what is read of the rows of one run, among all rows
  module _ {X : Type 0} (read : K × V → Option X) (run : RunKey) (apart : (e : K × V) → eq_by_cmp run_key_cmp (run_of e.0) run ≡ false → read e ≡ None) where
    none_of : (other : RunKey) (rows : List (K × V)) → eq_by_cmp run_key_cmp other run ≡ false → T (are_own other rows) → filter_map read rows ≡ []
    none_of other [] differs own = refl
    none_of other (e ∷ es) differs own =
        let here : read e ≡ None = apart e (ap is_eq (run_key_total.congr (run_of e.0) other run (tied _ (first _ _ own))) ∙ differs) in
        let rest : filter_map read es ≡ [] = none_of other es differs (second _ _ own) in
        (λ i. cons_option (here i) (rest i))

    none_later : (es : List (RunKey × W)) → T (below_all run_key_cmp run es) → T (each_own es) → filter_map read (all_rows es) ≡ []
    none_later [] below own = refl
    none_later (e ∷ es) below own =
        let here : filter_map read (rows_of e.1) ≡ [] = none_of e.0 (rows_of e.1) (ap is_eq (run_key_total.antisymm e.0 run ∙ ap ordering_reverse (less _ (first _ _ below)))) (first _ _ own) in
        let rest : filter_map read (all_rows es) ≡ [] = none_later es (second _ _ below) (second _ _ own) in
        filter_map-append read (rows_of e.1) (all_rows es) ∙ (λ i. here i ++ rest i)

    pub read_found : (es : List (RunKey × W)) → T (is_sorted run_key_cmp es) → T (each_own es) → filter_map read (all_rows es) ≡ filter_map read (rows_found rows_of (find run_key_cmp run es))
    read_found [] rising own = refl
    read_found (e ∷ es) rising own = filter_map-append read (rows_of e.1) (all_rows es) ∙ elim (eq_by_cmp run_key_cmp run e.0) as (λ b. eq_by_cmp run_key_cmp run e.0 ≡ b
        → filter_map read (rows_of e.1) ++ filter_map read (all_rows es) ≡ filter_map read (rows_found rows_of (cond b (Some e.1) (find run_key_cmp run es)))) [
          | true ↦ λ same.
              let below : T (below_all run_key_cmp run es) = subst (λ k. T (below_all run_key_cmp k es)) (sym (exact_run_keys run e.0 (equal _ same))) (first _ _ rising) in
              ap (λ l. filter_map read (rows_of e.1) ++ l) (none_later es below (second _ _ own)) ∙ append-nil (filter_map read (rows_of e.1))
          | false ↦ λ differs.
              ap (λ l. l ++ filter_map read (all_rows es)) (none_of e.0 (rows_of e.1) ((eq_by_cmp_equiv run_key_total).symm e.0 run ∙ differs) (first _ _ own))
              ∙ read_found es (second _ _ rising) (second _ _ own)
        ] refl

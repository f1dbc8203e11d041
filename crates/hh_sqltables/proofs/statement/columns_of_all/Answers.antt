use Rattle.std.proofs.Common.{◌≡◌, ◌+◌, ◌++◌, ◌∷◌, [], ◌∙◌, ap, append_assoc, arith, subst, sym, take}
use Rattle.std.specs.List.{AllByRecursion, flat_map}
use Rattle.std.proofs.lemmas.List.{flat_map_more, take_all}
use Rattle.sqlite_keyed.proofs.ListLemmas.{all-append}
use Rattle.sqlite_value.specs.Order.{Row}
use Rattle.hh_keyed_rows.specs.KeyedRows.{columns_of}
use Rattle.hh_keyed_rows.specs.Laws.{Fits}
use Rattle.hh_sqltables.proofs.ManyLaws.{take_next}
use Rattle.hh_sqltables.proofs.statement.columns_of_all.Goals as goal

pub entries-preserved : goal.entries-preserved
entries-preserved g c =
    let key = g.K.Columned.codec in
    let value = g.V.Columned.codec in
    let done = take c.entries.entry-index c.args.entries.now in
    let entry = c.entry-item.result in
    let whole : take (c.entries.entry-index + 1) c.args.entries.now ≡ done ++ entry ∷ [] = take_next c.args.entries.now c.entries.entry-index entry (omega arith) c.entry-item.is in
    let keys = c.in_ok-to_columns.ensures in
    let values = c.in_ok-to_columns-2.ensures in (
      values.written
          ∙ ap (λ (r : Row). r ++ value.write entry.1) (keys.written ∙ ap (λ (r : Row). r ++ key.write entry.0) c.entries.invariant.0)
          ∙ append_assoc (flat_map (columns_of key value) done) (key.write entry.0) (value.write entry.1)
          ∙ flat_map_more (columns_of key value) [] done entry
          ∙ ap (flat_map (columns_of key value)) (sym whole),
      subst (AllByRecursion (Fits key value)) (sym whole) (all-append _ done (entry ∷ []) c.entries.invariant.1 ((keys.fits, values.fits), tt)),
    )

pub returns-clause-written : goal.returns-clause-written
returns-clause-written g c =
    c.entries.invariant.0 ∙ ap (flat_map (columns_of g.K.Columned.codec g.V.Columned.codec)) (take_all c.entries.entry-index c.args.entries.now (omega (arith, c.entries-test.false)))

pub returns-clause-fit : goal.returns-clause-fit
returns-clause-fit g c =
    subst (AllByRecursion (Fits g.K.Columned.codec g.V.Columned.codec)) (take_all c.entries.entry-index c.args.entries.now (omega (arith, c.entries-test.false))) c.entries.invariant.1

-- In the last commit of an open store over files, the rowids of each table rise, as the store's own fields about the pages say.
use Rattle.std.proofs.Common.{◌≡◌, ◌∙◌, IsTrue, refl, sym, subst, ap}
use Rattle.std.proofs.Math.Logic.{∥∥₁_elim}
use Rattle.sqlite_disk.specs.declared.Disk.{Ghosts}
use Rattle.sqlite_wal.proofs.StateLemmas.{clean_of}
use Rattle.sqlite_pool.specs.File.{in_use, version_in}
use Rattle.sqlite_trees.specs.Tree.{Trees}
use Rattle.sqlite_trees.specs.View.{IsShaped}
use Rattle.sqlite_trees.specs.Objects.{catalog_tree}
use Rattle.sqlite_trees.specs.Props.{AllByRecursion-prop, IsShaped-prop}
use Rattle.sqlite_trees.specs.declared.store.Shape.TheVariants as shape
use Rattle.sqlite_schema.specs.declared.schema.Schema.{Schema}
use Rattle.sqlite_rules.proofs.ListLemmas.{all_from}
use Rattle.sqlite_catalog.specs.Listing.{IsSound}
use Rattle.sqlite_catalog.proofs.LayoutLemmas.{table_shape}
use Rattle.sqlite_store.specs.declared.store.FileStore.{FileStore}
use Rattle.sqlite_store.specs.FileStore.{state, view}
use Rattle.sqlite_store.specs.Saved.{kept_schema}
use Rattle.sqlite_store.specs.Listing.{file_trees, all_shapes, listed_from}
use Rattle.sqlite_store.specs.Listed.{catalog_rows, is_listed}
use Rattle.sqlite_store.proofs.ListingLemmas.{all_ordered, listing_shaped}
use Rattle.hh_sqlrows.specs.Office.{RowidsRise}

module _ {D : Type 0} {g : Ghosts D} (it : FileStore D g) (schema : Schema) (is_open : IsTrue (view it).is_open) (sound : IsSound schema (view it).committed) where
  pub file_rowids_rise : RowidsRise schema (view it).committed
  file_rowids_rise = ∥∥₁_elim (it.stored is_open) (AllByRecursion-prop _ (λ t. IsShaped-prop shape.Table ((view it).committed t.tree)) schema.tables) (λ stored.
      let size = (state it).page_size in
      let wanted = kept_schema it.saved it.schema.items in
      let pages = (state it).committed in
      let same : (view it).committed ≡ file_trees size wanted pages = rw (clean_of (state it) is_open) refl in
      let rows : (view it).committed catalog_tree ≡ listed_from 0 wanted = ap (λ (t : Trees). t catalog_tree) same ∙ catalog_rows size wanted (in_use size pages) in
      let are = subst (λ objects. Rattle.sqlite_catalog.specs.Listing.AreListed objects schema) rows sound.lists.listed in
      all_from _ schema.tables (λ t h.
      subst (λ s. IsShaped s ((view it).committed t.tree)) (table_shape (is_listed wanted) (listing_shaped 0 wanted).0 are t h).0
      (subst (λ (trees : Trees). IsShaped (all_shapes wanted t.tree) (trees t.tree)) (sym same) (all_ordered stored.ours.file.db (version_in pages) t.tree))))

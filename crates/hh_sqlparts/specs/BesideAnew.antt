-- What must be kept beside an office's tables if nothing is kept beside them yet.
use Rattle.std.specs.Prelude.{◌≡◌, []}
use Rattle.sqlite_trees.specs.Tree.{Trees}
use Rattle.hh_kept_rows.specs.Keeping.{periods_of_runs, positions_by}
use Rattle.hh_sqlrows.specs.Contents.{registered_of, touched_periods}
use Rattle.hh_sqlrows.specs.Forms.{rows_under_keys}
use Rattle.hh_sqlrows.specs.OfficeTables.{positions, runs}
use Rattle.hh_sqlparts.specs.declared.beside_anew.BesideAnew.{BesideAnew}

-- nothing is kept beside the tables
pub record HasNothingBeside (trees : Trees) : Type 0 where
  pub positions : rows_under_keys positions trees ≡ []
  pub touched : touched_periods trees ≡ []

-- Nothing is kept beside the tables, and `found` must be: the positions from all contracts in force, and each Settlement Period of each
-- run.
pub record IsBesideAnew (trees : Trees) (found : BesideAnew) : Type 0 where
  pub nothing : HasNothingBeside trees
  pub positions : found.positions.items ≡ positions_by (registered_of trees)
  pub touched : found.touched.items ≡ periods_of_runs (rows_under_keys runs trees)

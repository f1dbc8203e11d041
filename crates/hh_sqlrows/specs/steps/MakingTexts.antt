-- The texts that make the tables of an office, in their order.
use Rattle.std.specs.Prelude.{ℕ, List, [], ◌∷◌}
use Rattle.hh_sqlrows.specs.declared.tables.contracts.TheConstants as contracts
use Rattle.hh_sqlrows.specs.declared.tables.credits.TheConstants as credits
use Rattle.hh_sqlrows.specs.declared.tables.files.TheConstants as files
use Rattle.hh_sqlrows.specs.declared.tables.leads.TheConstants as leads
use Rattle.hh_sqlrows.specs.declared.tables.marks.TheConstants as marks
use Rattle.hh_sqlrows.specs.declared.tables.meters.TheConstants as meters
use Rattle.hh_sqlrows.specs.declared.tables.parties.TheConstants as parties
use Rattle.hh_sqlrows.specs.declared.tables.positions.TheConstants as positions
use Rattle.hh_sqlrows.specs.declared.tables.postings.TheConstants as postings
use Rattle.hh_sqlrows.specs.declared.tables.prices.TheConstants as prices
use Rattle.hh_sqlrows.specs.declared.tables.reallocations.TheConstants as reallocations
use Rattle.hh_sqlrows.specs.declared.tables.references.TheConstants as references
use Rattle.hh_sqlrows.specs.declared.tables.results.TheConstants as results
use Rattle.hh_sqlrows.specs.declared.tables.runs.TheConstants as runs
use Rattle.hh_sqlrows.specs.declared.tables.settings.TheConstants as settings
use Rattle.hh_sqlrows.specs.declared.tables.touched.TheConstants as touched
use Rattle.hh_sqlrows.specs.declared.tables.units.TheConstants as units

abbrev pub texts : List (List ℕ)
texts =
    settings.CREATION.now ∷ parties.CREATION.now ∷ units.CREATION.now ∷ meters.CREATION.now ∷
    prices.CREATION.now ∷ references.CREATION.now ∷ contracts.CREATION.now ∷ reallocations.CREATION.now ∷
    files.CREATION.now ∷ runs.CREATION.now ∷ results.CREATION.now ∷ credits.CREATION.now ∷
    postings.CREATION.now ∷ positions.CREATION.now ∷ touched.CREATION.now ∷ marks.CREATION.now ∷ leads.CREATION.now ∷ []

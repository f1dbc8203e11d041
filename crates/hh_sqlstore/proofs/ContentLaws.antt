-- A database contains exactly the content that its tables have.
use Rattle.std.proofs.Common.{◌≡◌, ◌∙◌, Bool, true, false, IsTrue, ap, arith, refl, sym}
use Rattle.sqlite_trees.specs.declared.store.Store.{Ghosts}
use Rattle.sqlite_trees.specs.View.{doubt}
use Rattle.sqlite.specs.Effect.{Database}
use Rattle.sqlite.specs.Held.{Held, state}
use Rattle.sqlite.specs.State.{HasCleanDisk}
use Rattle.sqlite_trees.specs.Tree.{Trees}
use Rattle.hh_rows.specs.declared.settings.Settings.{Settings}
use Rattle.hh_rules.specs.History.{Registered}
use Rattle.hh_states.specs.Content.{Content}
use Rattle.hh_keyed_rows.specs.Values.{version}
use Rattle.hh_sqlrows.specs.Contents.{content_of, is_in_step_in, registered_of, stored_content}
use Rattle.hh_sqlrows.specs.Holds.{HasSettings, Holds}
use Rattle.hh_sqlrows.specs.Office.{IsOffice}

unshut : (is_open is_clean : Bool) → (is_clean ≡ false → is_open ≡ false) → IsTrue is_open → doubt is_clean ≡ 0
unfolding doubt
unshut is_open true shut stands = refl
unshut true false shut stands = absurd (let e = shut refl in cc)
unshut false false shut stands = absurd (let e : ◌≡◌ {A = Bool} false true = stands in cc)

-- if a connection is open, its disk has returned what was written
pub clean_while_open : {S : Type 0} (g : Ghosts S) (h : Held S) → ((s : S) → (g.view s).is_clean ≡ false → (g.view s).is_open ≡ false) → IsTrue (state g h).is_open → HasCleanDisk (state g h)
clean_while_open g h shut stands = unshut _ _ (shut h.store) stands

same_registered : (a b : Registered) → a.parties ≡ b.parties → a.units ≡ b.units → a.leads ≡ b.leads → a.references ≡ b.references → a.meters ≡ b.meters → a.prices ≡ b.prices → a.contracts ≡ b.contracts → a.reallocations ≡ b.reallocations → a ≡ b
same_registered a b p u l f m s c r =
    let e : ◌≡◌ {A = Registered} (record { parties = a.parties; units = a.units; leads = a.leads; references = a.references; meters = a.meters; prices = a.prices; contracts = a.contracts; reallocations = a.reallocations }) b = rw (p, u, l, f, m, s, c, r) in e

same_content : (a b : Content) → a.settings ≡ b.settings → a.registered ≡ b.registered → a.files ≡ b.files → a.runs ≡ b.runs → a.results ≡ b.results → a.credits ≡ b.credits → a.postings ≡ b.postings → a.is_in_step ≡ b.is_in_step → a ≡ b
same_content a b s g f r t c p i =
    let e : ◌≡◌ {A = Content} (record { settings = a.settings; registered = a.registered; files = a.files; runs = a.runs; results = a.results; credits = a.credits; postings = a.postings; is_in_step = a.is_in_step }) b = rw (s, g, f, r, t, c, p, i) in e

-- what is kept beside a content agrees with it or not, whatever the content says of that
said_aside : (content : Content) (said : Bool) (trees : Trees) → is_in_step_in (record content { is_in_step = said }) trees ≡ is_in_step_in content trees
unfolding is_in_step_in
said_aside content said trees = refl

-- an office's database contains the content given by its settings
pub holds_content : (kept : Settings) (db : Database) → IsOffice db → HasSettings version kept db.trees → Holds version (stored_content kept db.trees) db
holds_content kept db is has = record {
  of_version = (omega arith, omega arith);
  is_office = is;
  settings = has;
  leads = refl;
  prices = refl;
  alike = record { parties = refl; units = refl; references = refl; meters = refl; contracts = refl; reallocations = refl; files = refl; runs = refl; results = refl; credits = refl; postings = refl };
  in_step = sym (said_aside (content_of kept db.trees) (is_in_step_in (content_of kept db.trees) db.trees) db.trees);
}

module _ (content : Content) (db : Database) (holds : Holds version content db) where
  -- but for what it says of what is kept beside it, the content is that of the tables
  same_tables : record content { is_in_step = true } ≡ content_of content.settings db.trees
  same_tables =
      let alike = holds.alike in
      let registered = same_registered content.registered (registered_of db.trees) alike.parties alike.units holds.leads alike.references alike.meters holds.prices alike.contracts alike.reallocations in
      same_content (record content { is_in_step = true }) (content_of content.settings db.trees) refl registered alike.files alike.runs alike.results alike.credits alike.postings refl

  same_step : content.is_in_step ≡ is_in_step_in (content_of content.settings db.trees) db.trees
  same_step = holds.in_step ∙ sym (said_aside content true db.trees) ∙ ap (λ (c : Content). is_in_step_in c db.trees) same_tables

  pub content_is : content ≡ stored_content content.settings db.trees
  content_is = λ i. record (same_tables i) { is_in_step = same_step i }

  -- it contains the content given by the settings in it
  pub holds_its_own : Holds version (stored_content content.settings db.trees) db
  holds_its_own = holds_content content.settings db holds.is_office holds.settings

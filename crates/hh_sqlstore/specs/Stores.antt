-- The tables of an office in a database: a connection, the settings that it contains, and how often it has refused.
use Rattle.std.specs.Prelude.{◌≡◌, ℕ, ℤ, true, false, List, Option, Some, IfSome, IsTrue, refl}
use Rattle.std.specs.Coded.{Coded, code_by, coded×, coded_ℕ, coded_list}
use Rattle.std.specs.Global.{Vec}
use Rattle.sqlite_trees.specs.declared.store.Store.{Ghosts}
use Rattle.sqlite.specs.Held.{Held, held_code, state}
use Rattle.sqlite.specs.State.{HasCleanDisk, State}
use Rattle.hh_rows.specs.declared.settings.Settings.{Settings}
use Rattle.hh_states.specs.Content.{Content}
use Rattle.hh_states.specs.declared.run_keys.PostingKey.{PostingKey}
use Rattle.hh_keyed_rows.specs.Values.{version}
use Rattle.hh_sqlrows.specs.Contents.{mark_in, stored_content}
use Rattle.hh_sqlrows.specs.Forms.{rows_under_keys}
use Rattle.hh_sqlrows.specs.OfficeTables.{postings}
use Rattle.hh_sqlrows.specs.Holds.{Holds}

pub record Stored (S : Type 0) : Type 0 where
  pub connection : Held S
  pub settings : Settings
  pub refusals : ℕ

abbrev pub stored_code : {S : Type 0} → Coded S → Coded (Stored S)
stored_code {S} store =
    code_by (Held S × (ℕ × (ℕ × List ℕ))) (coded× (held_code store) (coded× coded_ℕ (coded× coded_ℕ (coded_list coded_ℕ))))
    (λ t. (t.connection, (t.refusals, (t.settings.lead_minutes, t.settings.operator_key))))
    (λ p. record { connection = p.0; settings = record { lead_minutes = p.1.1.0; operator_key = p.1.1.1 }; refusals = p.1.0 })
    (λ _. refl)

-- if postings are in memory, they are all the postings that there are
abbrev pub ArePosted : State → Option (Vec (PostingKey × ℤ)) → Type 0
ArePosted now posted = IsTrue now.is_open → IfSome posted (λ rows. rows.items ≡ rows_under_keys postings now.now.trees)

module _ {S : Type 0} (g : Ghosts S) (t : Stored S) where
  -- the content of the last commit, and whether what is kept beside it agrees with it
  abbrev pub content_in : Content
  content_in = stored_content t.settings (state g t.connection).committed.trees

  -- the disk has returned what was written
  abbrev pub IsHonestDisk : Type 0
  IsHonestDisk = HasCleanDisk (state g t.connection)

  -- No transaction is under way. While the tables are open, everything is committed, the database contains their content, and its mark says
  -- that positions are kept. `posted` are the postings in memory, if they are.
  pub record IsIdle (posted : Option (Vec (PostingKey × ℤ))) : Type 0 where
    pub autocommit : t.connection.in_transaction ≡ false
    pub settled : IsTrue (state g t.connection).is_open → (state g t.connection).now ≡ (state g t.connection).committed
    pub holds : IsTrue (state g t.connection).is_open → Holds version content_in (state g t.connection).committed
    pub marked : IsTrue (state g t.connection).is_open → mark_in (state g t.connection).committed.trees ≡ Some true
    pub at_hand : ArePosted (state g t.connection) posted

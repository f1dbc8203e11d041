-- What is known about the databases at the paths of a host.
use Rattle.std.specs.Prelude.{◌≡◌, ⊤, Bool, ℕ, List, IsTrue}
use Rattle.sqlite.specs.Effect.{Database}
use Rattle.sqlite_trees.specs.declared.store.Store.{Ghosts}
use Rattle.sqlite.specs.Held.{Held, state}
use Rattle.sqlite.specs.State.{State}
use Rattle.hh_store.specs.declared.store_fault.StoreFault.{StoreFault}
use Rattle.hh_sqlstore.specs.TakenOver.{IsTakenOver}
use Rattle.hh_kept_office.specs.Kept.{BecomesPresent}

-- A database as a connection sees it: whether the connection is open, the database in its transaction, and the database of the last commit.
-- The latter two say nothing if the connection is closed.
pub record Connected : Type 0 where
  pub is_open : Bool
  pub now : Database
  pub committed : Database

-- the same for the state of a connection
abbrev pub connected : State → Connected
connected s = record { is_open = s.is_open; now = s.now; committed = s.committed }

-- the same for a connection
abbrev pub shown_by : {S : Type 0} → Ghosts S → Held S → Connected
shown_by ghosts connection = connected (state ghosts connection)

-- a connection that is open afterwards was open before, and its database is as it was
abbrev pub LeavesConnected : Connected → Connected → Type 0
LeavesConnected old new = IsTrue new.is_open → IsTrue old.is_open × (new.now ≡ old.now) × (new.committed ≡ old.committed)

-- a connection that is open afterwards was open before, and its database is as it was, or positions are kept there from now on
abbrev pub TakesConnected : Connected → Connected → Type 0
TakesConnected old new =
    IsTrue new.is_open → IsTrue old.is_open × IsTakenOver old.now new.now × IsTakenOver old.committed new.committed

-- A connection that is open afterwards was open before, everything is committed, and its database has become that of an office of the
-- present version.
abbrev pub MigratesConnected : Connected → Connected → Type 0
MigratesConnected old new =
    IsTrue new.is_open → IsTrue old.is_open × (new.now ≡ new.committed) × BecomesPresent old.committed new.committed

-- the paths of a host, and the databases there
pub record Places : Type 1 where
  -- whether something may be found at a path
  pub finds : List ℕ → Bool → Type 0
  -- the faults that there may be when a path is looked at, or a database is made or opened there
  pub refuses : List ℕ → StoreFault → Type 0
  -- a database that is made or opened at a path may be this
  pub opens : List ℕ → Connected → Type 0
  -- a database that is closed at a path may be this
  pub closes : List ℕ → Connected → Type 0
  -- a database that is closed at a path and then removed may be this
  pub discards : List ℕ → Connected → Type 0

-- the connections at the paths of a host, seen as databases
abbrev pub seen_at : {C : Type 0} → (C → Connected) → (List ℕ → C → Type 0) → List ℕ → Connected → Type 0
seen_at {C} seen known path db = (connection : C) × known path connection × (db ≡ seen connection)

-- What is known about the paths of a host, given what its calls tell: the connections that were opened, closed and removed, seen as
-- databases.
abbrev pub places_of : {H C : Type 0} → (H → List ℕ → Bool → Type 0) → (H → List ℕ → StoreFault → Type 0) → (H → List ℕ → C → Type 0)
    → (H → List ℕ → C → Type 0) → (H → List ℕ → C → Type 0) → (C → Connected) → H → Places
places_of finds refuses opens closes discards seen host = record {
  finds = finds host;
  refuses = refuses host;
  opens = seen_at seen (opens host);
  closes = seen_at seen (closes host);
  discards = seen_at seen (discards host);
}

-- nothing is known
abbrev pub any_places : Places
any_places = record { finds = λ _ _. ⊤; refuses = λ _ _. ⊤; opens = λ _ _. ⊤; closes = λ _ _. ⊤; discards = λ _ _. ⊤ }

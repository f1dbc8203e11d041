-- What reports show, by the rows of the tables from which they are written.
use Rattle.std.specs.Prelude.{ℕ, ℤ, List, filter_map, map}
use Rattle.hh_num.specs.Totals.{total}
use Rattle.hh_tables.specs.Tables.{Table}
use Rattle.hh_rows.specs.declared.rows.PartyRegistration.{PartyRegistration}
use Rattle.hh_store.specs.Exports.{balances_text}
use Rattle.hh_states.specs.declared.run_keys.PostingKey.{PostingKey}
use Rattle.hh_states.specs.Reads.{posting_to}

-- the balances of both accounts of each of these parties, by these postings
abbrev pub balances_by : Table (List ℕ) PartyRegistration → Table PostingKey ℤ → List ℕ
balances_by parties postings =
    balances_text (map (λ e. e.0) parties) (λ a. total (λ e. e.1) (filter_map (posting_to a) postings))

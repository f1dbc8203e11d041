-- What a load and a run write into the tables of an office, and the tables after that.
use Rattle.std.specs.Prelude.{◌≡◌, ℕ, ℤ, List, [], ◌∷◌, true}
use Rattle.std.specs.FinMap.{put}
use Rattle.hh_rules.specs.Tables.{Table, put_all}
use Rattle.hh_rules.specs.Days.{Midnights}
use Rattle.hh_rules.specs.values.Counterparties.{Counterparties}
use Rattle.hh_rules.specs.Accounts.{bytes_cmp}
use Rattle.hh_rules.specs.rows.Row.{Row}
use Rattle.hh_rules.specs.rows.UnitRegistration.{UnitRegistration}
use Rattle.hh_rules.specs.Effects.{with_row}
use Rattle.hh_rules.specs.FileRows.{fixed_references, timely_rows}
use Rattle.hh_rules.specs.History.{Registered, leads_with_row, units_with_row}
use Rattle.hh_rules.specs.Registrations.{Leads}
use Rattle.hh_calc.specs.declared.result.AccountRow.{AccountRow}
use Rattle.hh_runs.specs.declared.summary.Summary.{Summary}
use Rattle.hh_runs.specs.declared.run_key.RunKey.{RunKey}
use Rattle.hh_states.specs.declared.run_keys.CreditKey.{CreditKey}
use Rattle.hh_states.specs.declared.run_keys.PostingKey.{PostingKey}
use Rattle.hh_states.specs.declared.run_keys.ResultKey.{ResultKey}
use Rattle.hh_states.specs.declared.file_key.FileKey.{FileKey}
use Rattle.hh_states.specs.Content.{Content, credit_entries, credit_key_cmp, posting_entries, posting_key_cmp, result_entries, result_key_cmp, tables_of}
use Rattle.hh_states.specs.Runs.{Run, latest_run, postings_after, run_key_cmp, settled_by}
use Rattle.hh_states.specs.States.{KeptFileView, State, file_key_cmp}
use Rattle.hh_states.specs.Steps.{CanLoad, CanRun, IsReached, Load, after_load, after_run, kept_file, new_run, new_summary, rows_coming, timetable_at}

-- what a load writes: the file with the counts of its reply, its rows that are not late, and the references that it fixes
pub record LoadChangeView : Type 0 where
  pub key : FileKey
  pub file : KeptFileView
  pub rows : List Row
  pub references : List (List ℕ × Counterparties)

-- what a run writes: its summary, the rows of its accounts, its credits and its postings
pub record RunChangeView : Type 0 where
  pub key : RunKey
  pub summary : Summary
  pub results : List (ResultKey × AccountRow)
  pub credits : List (CreditKey × ℤ)
  pub postings : List (PostingKey × ℤ)

-- what is registered and in force after one more row that is not late; references and what is registered of units are put apart
abbrev pub put_row : Row → Registered → Registered
put_row r tables = record (with_row true r tables) { references = tables.references; units = tables.units; leads = tables.leads }

-- what is registered and in force after more rows that are not late, one after another
abbrev pub put_rows : List Row → Registered → Registered
put_rows [] tables = tables
put_rows (r ∷ rows) tables = put_rows rows (put_row r tables)

-- what is registered of each unit after more rows, one after another
abbrev pub units_through : List Row → Table (List ℕ) UnitRegistration → Table (List ℕ) UnitRegistration
units_through [] units = units
units_through (r ∷ rows) units = units_through rows (units_with_row r units)

-- the registrations of units after more rows, one after another
abbrev pub leads_through : List Row → Leads → Leads
leads_through [] leads = leads
leads_through (r ∷ rows) leads = leads_through rows (leads_with_row r leads)

-- what is registered and in force after a load that writes this
abbrev pub registered_with : LoadChangeView → Registered → Registered
registered_with w tables = record (put_rows w.rows tables) {
  references = put_all bytes_cmp w.references tables.references;
  units = units_through w.rows tables.units;
  leads = leads_through w.rows tables.leads;
}

-- the tables after a load that writes this
abbrev pub effect_of_load : LoadChangeView → Content → Content
effect_of_load w content = record content {
  registered = registered_with w content.registered;
  files = put file_key_cmp w.key w.file content.files;
}

-- the tables after a run that writes this
abbrev pub effect_of_run : RunChangeView → Content → Content
effect_of_run w content = record content {
  runs = put run_key_cmp w.key w.summary content.runs;
  results = put_all result_key_cmp w.results content.results;
  credits = put_all credit_key_cmp w.credits content.credits;
  postings = put_all posting_key_cmp w.postings content.postings;
}

module _ (midnight : Midnights) (s : State) where
  -- the rows of a load that are not late
  abbrev pub rows_in_time : Load → List Row
  rows_in_time load = timely_rows (timetable_at midnight s) (rows_coming load)

  -- the references that a load fixes, those of late rows included
  abbrev pub references_fixed : Load → List (List ℕ × Counterparties)
  references_fixed load = fixed_references (timetable_at midnight s) s.history (rows_coming load)

  -- what the machine writes for an accepted load
  abbrev pub load_change : Load → LoadChangeView
  load_change load = record {
    key = load.key;
    file = kept_file (timetable_at midnight s) load;
    rows = rows_in_time load;
    references = references_fixed load;
  }

  -- what the machine writes for a new run
  abbrev pub run_change : RunKey → RunChangeView
  run_change key =
      let run : Run = new_run s key in
      record {
        key = key;
        summary = new_summary midnight s key;
        results = result_entries key (settled_by (timetable_at midnight s) s.history run);
        credits = credit_entries key (settled_by (timetable_at midnight s) s.history run);
        postings = posting_entries key (postings_after (timetable_at midnight s) s.history (latest_run key.date s.runs) run);
      }

module _ (midnight : Midnights) (content : Content) where
  -- these are the tables of a state that the machine reaches
  abbrev pub TablesRepresent : State → Type 0
  TablesRepresent s = IsReached midnight s × (content ≡ tables_of midnight s)

  -- the machine writes this for a load that it accepts in a state with these tables
  abbrev pub IsLoadFrom : LoadChangeView → Type 0
  IsLoadFrom w = (s : State) × (load : Load) × TablesRepresent s × CanLoad midnight s load × (w ≡ load_change midnight s load)

  -- the machine writes this for a new run that it makes in a state with these tables
  abbrev pub IsRunFrom : RunChangeView → Type 0
  IsRunFrom w = (s : State) × (moment : ℤ) × (key : RunKey) × TablesRepresent s × CanRun midnight s moment key × (w ≡ run_change midnight s key)

-- the tables of the state after a load are those of the state before, with what the load writes put into them
abbrev pub LoadEffect : Type 0
LoadEffect = (midnight : Midnights) (s : State) (load : Load) → IsReached midnight s → CanLoad midnight s load
    → tables_of midnight (after_load midnight s load) ≡ effect_of_load (load_change midnight s load) (tables_of midnight s)

-- the tables of the state after a run are those of the state before, with what the run writes put into them
abbrev pub RunEffect : Type 0
RunEffect = (midnight : Midnights) (s : State) (moment : ℤ) (key : RunKey) → CanRun midnight s moment key
    → tables_of midnight (after_run s key) ≡ effect_of_run (run_change midnight s key) (tables_of midnight s)

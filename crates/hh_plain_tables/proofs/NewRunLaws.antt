-- What the machine writes for a run: the run is not there yet.
use Rattle.std.proofs.Common.{◌≡◌, true, None, ap, ◌∙◌}
use Rattle.std.specs.FinMap.{find}
use Rattle.hh_tables.specs.Tables.{Table}
use Rattle.hh_tables.proofs.TableLaws.{find-in_key_order}
use Rattle.hh_time.specs.Days.{Midnights}
use Rattle.hh_rows.specs.declared.settings.Settings.{Settings}
use Rattle.hh_rules.specs.History.{Registered}
use Rattle.hh_states.specs.Changes.{effect_of_run, IsRunFrom, RunChangeView}
use Rattle.hh_states.specs.Content.{Content, all_summaries, tables_of}
use Rattle.hh_states.specs.Runs.{run_key_cmp}
use Rattle.hh_states.specs.States.{KeptFileView}
use Rattle.hh_states.specs.Steps.{timetable_at}
use Rattle.hh_states.specs.declared.file_key.FileKey.{FileKey}
use Rattle.hh_states.proofs.KeyLaws.{run_key_total}
use Rattle.hh_plain_tables.specs.steps.KeptRuns.{kept_with, RunTables}

pub is_absent : (midnight : Midnights) (content : Content) (w : RunChangeView) (kept : RunTables) → kept.runs ≡ content.runs → IsRunFrom midnight content w → find run_key_cmp w.key kept.runs ≡ None
is_absent midnight content w kept seen (s, moment, run, represents, can, is) =
    ap (find run_key_cmp w.key) (seen ∙ ap (λ (c : Content). c.runs) represents.1)
    ∙ ap (λ (v : RunChangeView). find run_key_cmp v.key (tables_of midnight s).runs) is
    ∙ find-in_key_order run_key_total (all_summaries (timetable_at midnight s) s) run
    ∙ can.0

-- writing it into the tables of a content
module _ (settings : Settings) (registered : Registered) (files : Table FileKey KeptFileView) (kept new : RunTables) (content : Content) (w : RunChangeView) where
  abbrev content_with : RunTables → Content
  content_with k = record {
    settings = settings;
    registered = registered;
    files = files;
    runs = k.runs;
    results = k.results;
    credits = k.credits;
    postings = k.postings;
    is_in_step = true;
  }

  pub run_written : content_with kept ≡ content → (find run_key_cmp w.key kept.runs ≡ None → new ≡ kept_with w kept) → (midnight : Midnights) → IsRunFrom midnight content w → content_with new ≡ effect_of_run w content
  run_written seen put midnight from =
      ap content_with (put (is_absent midnight content w kept (ap (λ (c : Content). c.runs) seen) from)) ∙ ap (effect_of_run w) seen

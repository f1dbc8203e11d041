-- The tables of each state that the machine reaches have only values in the grammars and ranges of their fields, and no party has
-- the operator's key.
use Rattle.std.proofs.Common.{◌≡◌, ◌≢◌, ℕ, ℤ, ◌+◌, ◌≤◌, List, [], ◌∷◌, length, filter, refl, sym, ap, subst, ◌∙◌, Bool, true}
use Rattle.std.specs.Prelude.{IsTrue, not, take, ◌&&◌, codes, nat_le}
use Rattle.std.specs.FinMap.{put}
use Rattle.std.specs.FinMap.Entries.{by_order}
use Rattle.std.specs.List.{AllByRecursion, list_all}
use Rattle.std.specs.Str.{bytes_eq}
use Rattle.std.specs.declared.cmp.Ordering.TheVariants.{Less, Equal, Greater}
use Rattle.std.proofs.lemmas.Bool.{and_parts}
use Rattle.std.proofs.lemmas.List.{length-map}
use Rattle.std.proofs.lemmas.List.Filters.{length-filter_both}
use Rattle.std.proofs.lemmas.Slice.Eq.{bytes_eq-Decides}
use Rattle.hh_tables.specs.Tables.{Table}
use Rattle.hh_tables.proofs.TableLaws.{false_is_not_true}
use Rattle.hh_time.specs.Days.{Midnights}
use Rattle.hh_names.specs.Accounts.{bytes_cmp}
use Rattle.hh_names.specs.Words.{is_access_key, is_letter_or_digit, is_operator_key, is_word}
use Rattle.hh_rows.specs.RowKinds.{IsPartyRow, IsRow, most_rows}
use Rattle.hh_rows.specs.Values.{AreSettings}
use Rattle.hh_rows.specs.declared.rows.PartyRegistration.{PartyRegistration}
use Rattle.hh_rows.specs.declared.rows.PartyRow.{PartyRow}
use Rattle.hh_rows.specs.declared.rows.Row.{Row}
use Rattle.hh_rows.specs.declared.rows.Row.TheVariants as row
use Rattle.hh_rules.specs.Effects.{with_row}
use Rattle.hh_rules.specs.FileRows.{coming_at, late_count, timely_rows}
use Rattle.hh_rules.specs.History.{History, Registered, registered_in}
use Rattle.hh_rules.specs.Lateness.{Timetable, accepted_at, is_in_time}
use Rattle.hh_rules.proofs.HistoryLaws.{looks_back}
use Rattle.hh_states.specs.Ranges.{IsKeptFile, KeysNeverMeet, ReachedFiles}
use Rattle.hh_states.specs.States.{KeptFileView, State}
use Rattle.hh_states.specs.Steps.{IsReached, at_first, by_load, by_run, kept_file, timetable_at}
use Rattle.hh_states.specs.declared.file_key.FileKey.{FileKey}
use Rattle.hh_state_laws.proofs.AcceptedLaws.{reached_holds}
use Rattle.hh_state_laws.proofs.ApartLaws.{all-append}

-- ---- rows

-- a party's id and registration are those of a row in its grammars and ranges
abbrev OfParty : List ℕ × PartyRegistration → Type 0
OfParty e = IsPartyRow (record { party = e.0; registration = e.1 })

abbrev AreOfRows : Table (List ℕ) PartyRegistration → Type 0
AreOfRows parties = AllByRecursion OfParty parties

-- this stays so after such a row
party_put : (r : PartyRow) (parties : Table (List ℕ) PartyRegistration) → IsPartyRow r → AreOfRows parties → AreOfRows (put bytes_cmp r.party r.registration parties)
party_put r [] valued all = (valued, tt)
party_put r (e ∷ es) valued all =
    elim (bytes_cmp r.party e.0) as (λ o. AllByRecursion OfParty (by_order o ((r.party, r.registration) ∷ e ∷ es) ((e.0, r.registration) ∷ es) (e ∷ put bytes_cmp r.party r.registration es))) [
      | Less ↦ (valued, all)
      | Equal ↦ (record { party = all.0.party; registration = valued.registration }, all.1)
      | Greater ↦ (all.0, party_put r es valued all.1)
    ]

of_rows_with : (in_time : Bool) (r : Row) (tables : Registered) → IsRow r → AreOfRows tables.parties → AreOfRows (with_row in_time r tables).parties
of_rows_with in_time (row.Party r) tables valued before = party_put r tables.parties valued before
of_rows_with in_time (row.Unit r) tables valued before = before
of_rows_with in_time (row.Meter r) tables valued before = before
of_rows_with in_time (row.Price r) tables valued before = before
of_rows_with in_time (row.Contract r) tables valued before = before
of_rows_with in_time (row.Reallocation r) tables valued before = before

-- so it is in each reached state
parties_of_rows : (midnight : Midnights) (s : State) → IsReached midnight s → AreOfRows (registered_in (timetable_at midnight s) s.history).parties
parties_of_rows = reached_holds (λ timetable history. AreOfRows (registered_in timetable history).parties) (λ timetable. tt)
    (λ timetable history a before valued accepted.
    subst (λ (tables : Registered). AreOfRows tables.parties) (sym (looks_back timetable history a)) (of_rows_with (is_in_time timetable a) a.row (registered_in timetable history) valued before))

-- ---- settings and files

-- the settings of each reached state are in range
settings_in_range : (midnight : Midnights) (s : State) → IsReached midnight s → AreSettings s.settings
settings_in_range midnight s (at_first settings fine) = fine
settings_in_range midnight s (by_load t load reached can) = settings_in_range midnight t reached
settings_in_range midnight s (by_run t moment key reached can) = settings_in_range midnight t reached

-- each row is applied or late
counts_are_all : (timetable : Timetable) (moment : ℤ) (rows : List Row)
    → length (timely_rows timetable (coming_at moment rows)) + late_count timetable (coming_at moment rows) ≡ length rows
counts_are_all timetable moment rows =
    let coming : History = coming_at moment rows in
    ap (λ n. n + late_count timetable coming) (length-map (filter (is_in_time timetable) coming) (λ a. a.row))
    ∙ length-filter_both (is_in_time timetable) (λ a. not (is_in_time timetable a)) (λ a. refl) coming
    ∙ length-map rows (accepted_at moment)

abbrev OfFile : FileKey × KeptFileView → Type 0
OfFile f = IsKeptFile f.0 f.1

-- each file of a reached state has a name in its grammar, and no more bytes and rows than it may have
pub files_in_range : ReachedFiles
files_in_range midnight s (at_first settings fine) = tt
files_in_range midnight s (by_load t load reached can) =
    let timetable : Timetable = timetable_at midnight t in
    let file : KeptFileView = kept_file timetable load in
    let counts : file.applied + file.late ≡ length load.rows = counts_are_all timetable load.moment load.rows in
    all-append OfFile t.files ((load.key, file) ∷ []) (files_in_range midnight t reached)
    (record { named = can.named; small = can.file.small; few = subst (λ n. n ≤ most_rows) (sym counts) can.file.few }, tt)
files_in_range midnight s (by_run t moment key reached can) = files_in_range midnight t reached

-- ---- keys

-- no access key has the dash that the operator's key has
keys_apart : (key : List ℕ) → IsTrue (is_access_key key) → IsTrue (is_operator_key key) → ⊥
unfolding is_word is_operator_key
keys_apart key access operator =
    let front : take 3 key ≡ codes "op-" = (bytes_eq-Decides (take 3 key) (codes "op-")).0 (and_parts (bytes_eq (take 3 key) (codes "op-")) _ operator).0 in
    let allowed : list_all is_letter_or_digit key ≡ true = (and_parts (nat_le 8 (length key) && nat_le (length key) 64) (list_all is_letter_or_digit key) access).1 in
    go key front allowed
  where
    go : (k : List ℕ) → take 3 k ≡ codes "op-" → list_all is_letter_or_digit k ≡ true → ⊥
    go [] e all = cc e
    go (a ∷ []) e all = cc e
    go (a ∷ b ∷ []) e all = cc e
    go (a ∷ b ∷ c ∷ rest) e all =
        let third : c ≡ 45 = cc e in
        let dash : is_letter_or_digit c ≡ true = (and_parts _ _ (and_parts _ _ (and_parts _ _ all).1).1).0 in
        false_is_not_true (ap is_letter_or_digit (sym third) ∙ dash)

-- so in a reached state no registered party has the operator's key
pub keys_never_meet : KeysNeverMeet
keys_never_meet midnight s reached =
    go (registered_in (timetable_at midnight s) s.history).parties (parties_of_rows midnight s reached)
  where
    go : (es : List (List ℕ × PartyRegistration)) → AllByRecursion OfParty es → AllByRecursion (λ p. p.1.key ≢ s.settings.operator_key) es
    go [] all = tt
    go (e ∷ es) all = (
      λ same. keys_apart e.1.key all.0.registration.key (subst (λ k. IsTrue (is_operator_key k)) (sym same) (settings_in_range midnight s reached).operator_key),
      go es all.1,
    )

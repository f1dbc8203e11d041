-- A day report whose rows come in the order of their Settlement Periods.
use Rattle.std.proofs.Common.{◌≡◌, ℕ, suc, ◌+◌, ◌<◌, ◌≤◌, List, [], ◌∷◌, ◌++◌, length, length-drop, drop, take, get_or, sym, ap, subst, ◌∙◌, append_assoc, arith}
use Rattle.std.specs.Prelude.{codes, fold, All}
use Rattle.std.specs.List.{AllByRecursion, flat_map}
use Rattle.std.specs.List.Sorted.{IsNonDecreasingBy}
use Rattle.std.proofs.lemmas.List.{append-nil, get_or-drop, get_or-take, get_or_default, length-take-le}
use Rattle.std.proofs.lemmas.List.Elements.{All-from_recursion, recursion_from_All}
use Rattle.hh_devices.specs.DeviceChanges.{DeviceChange}
use Rattle.hh_calc.specs.declared.result.AccountRow.{AccountRow}
use Rattle.hh_reports.specs.declared.run.ReportedRun.{ReportedRun}
use Rattle.hh_reports.specs.declared.fault.ReportFault.{ReportFault}
use Rattle.hh_reports.specs.Beginnings.{DayGoesOn, GoesOnFrom}
use Rattle.hh_reports.specs.DayReport.{day_report_begun, day_report_text, heads_line, last_period, net_line, periods_lines, title_line}
use Rattle.hh_reports.specs.Nets.{nets_from_rows}
use Rattle.hh_reports.specs.Writers.{Rows}
use Rattle.hh_reports.proofs.DayLaws.{day_begun_none, end_text, last_is, row_text, text_end, text_row, upto_more, AreUpTo}
use Rattle.hh_reports.proofs.ListLaws.{stopped_early}
use Rattle.hh_reports.proofs.OutputLaws.{Stops}

-- the Settlement Periods of rows never fall, from this one on
abbrev pub StaysUp : ℕ → Rows → Type 0
StaysUp last [] = Unit {0}
StaysUp last (e ∷ rest) = (last ≤ e.0) × StaysUp e.0 rest

pub stays_up : (last : ℕ) (rows : Rows) → IsNonDecreasingBy (λ e. e.0) rows → ((d : ℕ × AccountRow) → 0 < length rows → last ≤ (get_or rows 0 d).0) → StaysUp last rows
stays_up last [] rising first = tt
stays_up last (e ∷ rest) rising first =
    (first e (omega arith), stays_up e.0 rest (λ i j d le lt. rising (suc i) (suc j) d (omega arith) (omega arith)) (λ d lt. rising 0 (suc 0) d (omega arith) (omega arith)))

-- the text still to come after these rows
ended : ReportedRun → Rows → Rows → List ℕ
ended run front [] = end_text run front
ended run front (e ∷ rest) = row_text run front e ++ ended run (front ++ e ∷ []) rest

whole_day : (run : ReportedRun) (front rest : Rows) → AreUpTo (last_period front) front → 1 ≤ last_period front → StaysUp (last_period front) rest
    → day_report_begun run front ++ ended run front rest ≡ day_report_text run (front ++ rest)
unfolding ended
whole_day run front [] all some up = sym (text_end run front all) ∙ ap (day_report_text run) (sym (append-nil front))
whole_day run front (e ∷ rest) all some up =
    let higher : last_period front ≤ e.0 = up.0 in
    let one : 1 ≤ e.0 = omega arith in
    let last = sym (last_is front e) in
    sym (append_assoc (day_report_begun run front) (row_text run front e) (ended run (front ++ e ∷ []) rest))
    ∙ ap (λ t. t ++ ended run (front ++ e ∷ []) rest) (sym (text_row run front e all higher one))
    ∙ whole_day run (front ++ e ∷ []) rest (upto_more front e all higher one) (subst (λ p. 1 ≤ p) last one) (subst (λ p. StaysUp p rest) last up.1)
    ∙ ap (day_report_text run) (append_assoc front (e ∷ []) rest)

-- a beginning of the text so far is a beginning of the whole report
pub day_stopped_early : (device : DeviceChange) (run : ReportedRun) (front rest all : Rows) (fault : ReportFault) → front ++ rest ≡ all
    → AreUpTo (last_period front) front → 1 ≤ last_period front → StaysUp (last_period front) rest
    → Stops device (day_report_begun run front) fault → Stops device (day_report_text run all) fault
day_stopped_early device run front rest all fault is within some up now =
    stopped_early device (day_report_begun run front) (ended run front rest) (day_report_text run all) fault
    (whole_day run front rest within some up ∙ ap (day_report_text run) is) now

last_le : (b a : ℕ) (rows : Rows) → a ≤ b → All (λ e. e.0 ≤ b) rows → fold (λ _ e. e.0) a rows ≤ b
last_le b a [] le all = le
last_le b a (e ∷ rows) le all = last_le b e.0 rows (all 0 e (omega arith)) (λ k d lt. all (suc k) d (omega arith))

-- the rows before a row are of its Settlement Period or of earlier ones
pub last_before : (rows : Rows) (i : ℕ) (row : ℕ × AccountRow) → IsNonDecreasingBy (λ e. e.0) rows → i < length rows → row ≡ get_or rows i row → last_period (take i rows) ≤ row.0
last_before rows i row rising inside is =
    last_le row.0 0 (take i rows) (omega arith) (λ k d lt.
    let within : i ≤ length rows = omega arith in
    let short : length (take i rows) ≡ i = length-take-le i rows within in
    let before : k < i = omega (arith, short) in
    let here : (get_or (take i rows) k d).0 ≡ (get_or rows k d).0 = ap (λ (e : ℕ × AccountRow). e.0) (get_or-take i rows k d before) in
    let up : (get_or rows k d).0 ≤ (get_or rows i d).0 = rising k i d (omega arith) inside in
    let there : (get_or rows i d).0 ≡ row.0 = ap (λ (e : ℕ × AccountRow). e.0) (get_or_default rows i d row inside ∙ sym is) in
    omega arith)

-- the row after a row is of its Settlement Period or of a later one
pub first_behind : (rows : Rows) (i : ℕ) (row : ℕ × AccountRow) → IsNonDecreasingBy (λ e. e.0) rows → i < length rows → row ≡ get_or rows i row
    → (d : ℕ × AccountRow) → 0 < length (drop (i + 1) rows) → row.0 ≤ (get_or (drop (i + 1) rows) 0 d).0
first_behind rows i row rising inside is d more =
    let long = length-drop (i + 1) rows in
    let behind : i + 1 + 0 < length rows = omega (arith, long) in
    let at : (get_or (drop (i + 1) rows) 0 d).0 ≡ (get_or rows (i + 1 + 0) d).0 = ap (λ (e : ℕ × AccountRow). e.0) (get_or-drop (i + 1) rows 0 d) in
    let up : (get_or rows i d).0 ≤ (get_or rows (i + 1 + 0) d).0 = rising i (i + 1 + 0) d (omega arith) behind in
    let there : (get_or rows i d).0 ≡ row.0 = ap (λ (e : ℕ × AccountRow). e.0) (get_or_default rows i d row inside ∙ sym is) in
    omega arith

-- the heads begin the whole report
heads_go_on : (run : ReportedRun) (rows : Rows) → GoesOnFrom (day_report_begun run []) (day_report_text run rows)
unfolding day_report_text
heads_go_on run rows =
    let heads = title_line run ++ heads_line in
    let periods = periods_lines run.periods rows in
    let nets = flat_map net_line (nets_from_rows rows) in
    let parts : ((heads ++ periods) ++ nets) ++ codes "END\n" ≡ heads ++ (periods ++ (nets ++ codes "END\n")) = simp append_assoc in
    (periods ++ (nets ++ codes "END\n"), parts ∙ ap (λ t. t ++ (periods ++ (nets ++ codes "END\n"))) (day_begun_none run))

-- a beginning of the heads is a beginning of the whole report
pub heads_stopped : (device : DeviceChange) (run : ReportedRun) (rows : Rows) (fault : ReportFault) → Stops device (day_report_begun run []) fault → Stops device (day_report_text run rows) fault
heads_stopped device run rows fault now =
    let on = heads_go_on run rows in
    stopped_early device (day_report_begun run []) on.0 (day_report_text run rows) fault (sym on.1) now

-- ---- the text so far begins the whole report

-- if the periods of two lists together never fall, they never fall in the first list, nor in the second from the first's last on
stays-parted : (last : ℕ) (front rest : Rows) → StaysUp last (front ++ rest) → StaysUp last front × StaysUp (fold (λ _ e. e.0) last front) rest
stays-parted last [] rest up = (tt, up)
stays-parted last (e ∷ front) rest up = let more = stays-parted e.0 front rest up.1 in ((up.0, more.0), more.1)

last-up : (last : ℕ) (rows : Rows) → StaysUp last rows → last ≤ fold (λ _ e. e.0) last rows
last-up last [] up = omega arith
last-up last (e ∷ rows) up = let more = last-up e.0 rows up.1 in let first : last ≤ e.0 = up.0 in omega arith

all-upto : (last : ℕ) (rows : Rows) → StaysUp last rows → AllByRecursion (λ e. 1 ≤ e.0) rows → AllByRecursion (λ e. (1 ≤ e.0) × (e.0 ≤ fold (λ _ e. e.0) last rows)) rows
all-upto last [] up some = tt
all-upto last (e ∷ rows) up some = ((some.0, last-up e.0 rows up.1), all-upto e.0 rows up.1 some.1)

pub day_goes_on : DayGoesOn
day_goes_on run [] later some rising = heads_go_on run later
day_goes_on run (e ∷ rows) later some rising =
    let up = stays_up 0 (e ∷ rows ++ later) rising (λ d lt. omega arith) in
    let parts = stays-parted 0 (e ∷ rows) later up in
    let each = recursion_from_All (λ e. 1 ≤ e.0) (e ∷ rows) some in
    let within = All-from_recursion _ (e ∷ rows) (all-upto 0 (e ∷ rows) parts.0 each) in
    let first : 1 ≤ e.0 = each.0 in
    let last = last-up e.0 rows parts.0.1 in
    (ended run (e ∷ rows) later, sym (whole_day run (e ∷ rows) later within (omega arith) parts.1))

-- If a file is larger than allowed, its beginning tells all that the whole file does.
use Rattle.std.proofs.Common.{◌≡◌, ◌<◌, ℕ, List, [], ◌∷◌, length, take, Result, Ok, Err, cond, refl, sym, ap, ◌∙◌, arith, Bool, true, false, ltb}
use Rattle.std.proofs.lemmas.Bool.{lt-ltb, ltb-false, ltb-true}
use Rattle.std.proofs.lemmas.List.{length-take-le, take_all}
use Rattle.hh_names.specs.declared.fault.Fault.{Fault}
use Rattle.hh_names.specs.declared.fault.Refusal.TheVariants.{FileTooLarge}
use Rattle.hh_names.specs.Faults.{plain_fault}
use Rattle.hh_num.specs.Quantities.{price_value}
use Rattle.hh_texts.specs.PeriodFiles.{period_contract_form, period_meter_form}
use Rattle.hh_texts.specs.Records.{records_of}
use Rattle.hh_rows.specs.RowKinds.{most_bytes}
use Rattle.hh_texts.specs.Rows.{FileForm, rows_of, rows_under}
use Rattle.hh_texts.specs.declared.period_contracts.PeriodContractRow.{PeriodContractRow}
use Rattle.hh_texts.specs.declared.period_meters.PeriodMeterRow.{PeriodMeterRow}
use Rattle.hh_period.specs.declared.rejection.Input.TheVariants.{Contracts, Meter}
use Rattle.hh_period.specs.Outcome.{period_outcome, priced, read_from, settled_text, Outcome, ◌>>=◌}
use Rattle.hh_period.specs.Rows.{accepted_rows, period_of}

-- the outcome of a period, given what its two files read as and the price
abbrev outcome_of : Result (List PeriodMeterRow) Fault → Result (List PeriodContractRow) Fault → List ℕ → Outcome (List ℕ)
outcome_of meters contracts price = (read_from Meter meters >>= (λ meter_rows. read_from Contracts contracts >>= (λ rows. read_from Contracts (accepted_rows rows) >>= (λ contract_rows. priced (price_value price) >>= (λ value. Ok (period_of meter_rows contract_rows value)))))) >>= settled_text

module _ (most : ℕ) (enough : most_bytes < most) where
  module _ {Row : Type 0} (forms : List (FileForm Row)) (bytes : List ℕ) where
    -- if all of a file is read, the front is the file; if the file is larger, the front has too many bytes as well
    rows_of-front : rows_of forms (take most bytes) ≡ rows_of forms bytes
    unfolding rows_of
    rows_of-front = go (ltb most (length bytes)) refl
      where
        go : (b : Bool) → ltb most (length bytes) ≡ b → rows_of forms (take most bytes) ≡ rows_of forms bytes
        go false is = ap (rows_of forms) (take_all most bytes (ltb-false most (length bytes) is))
        go true is =
            let larger : most < length bytes = ltb-true most (length bytes) is in
            let cut : ltb most_bytes (length (take most bytes)) ≡ true = ap (ltb most_bytes) (length-take-le most bytes (omega arith)) ∙ lt-ltb most_bytes most enough in
            let whole : ltb most_bytes (length bytes) ≡ true = lt-ltb most_bytes (length bytes) (omega (arith, enough)) in
            ap (λ t. cond t (Err (plain_fault FileTooLarge)) (rows_under forms (records_of (take most bytes)))) cut
            ∙ sym (ap (λ t. cond t (Err (plain_fault FileTooLarge)) (rows_under forms (records_of bytes))) whole)

  -- so the fronts of two files have the same outcome as the files
  pub period_outcome-front : (meter contracts price : List ℕ) → period_outcome (take most meter) (take most contracts) price ≡ period_outcome meter contracts price
  period_outcome-front meter contracts price =
      λ i. outcome_of (rows_of-front (period_meter_form ∷ []) meter i) (rows_of-front (period_contract_form ∷ []) contracts i) price

-- The rows of a file, or the first fault in it.
use Rattle.std.specs.Prelude.{ℕ, ◌+◌, List, [], ◌∷◌, length, find, Option, Some, None, Result, Ok, Err, nat_lt, ◌==◌, if◌then◌else◌, nat_eq, Bool}
use Rattle.std.specs.Cmp.Lexicographic.{pointwise}
use Rattle.hh_names.specs.declared.fault.Fault.{Fault}
use Rattle.hh_names.specs.declared.fault.Refusal.TheVariants.{FileTooLarge, TooManyRows, BadHeader, BadRecord}
use Rattle.hh_names.specs.Faults.{plain_fault, row_fault, field_fault}
use Rattle.hh_rows.specs.RowKinds.{most_bytes, most_rows}
use Rattle.hh_texts.specs.Records.{records_of}

-- whether two records have the same fields
abbrev pub same_fields : List (List ℕ) → List (List ℕ) → Bool
same_fields a b = pointwise (pointwise nat_eq) a b

-- the row that a record reads as, or the fault at its first column that cannot be read
abbrev pub at_row : {Row : Type 0} → ℕ → Result Row ℕ → Result Row Fault
at_row number (Ok row) = Ok row
at_row number (Err column) = Err (field_fault number column)

-- a row before other rows; the first fault counts
abbrev pub row_with : {Row : Type 0} → Result Row Fault → Result (List Row) Fault → Result (List Row) Fault
row_with (Err fault) rows = Err fault
row_with (Ok row) (Err fault) = Err fault
row_with (Ok row) (Ok rows) = Ok (row ∷ rows)

-- the rows of records, numbered from this number on; each record has so many columns
unfoldable pub rows_from : {Row : Type 0} → ℕ → (List (List ℕ) → Result Row ℕ) → ℕ → List (List (List ℕ)) → Result (List Row) Fault
rows_from columns row_of number [] = Ok []
rows_from columns row_of number (fields ∷ records) =
    if nat_lt most_rows number then Err (plain_fault TooManyRows)
    else if length fields == columns then row_with (at_row number (row_of fields)) (rows_from columns row_of (number + 1) records)
    else Err (row_fault BadRecord number)

-- A form of file: the columns that its header names, and the row that a record under it reads as, or the first column that cannot be
-- read.
pub record FileForm (Row : Type 0) : Type 0 where
  pub header : List (List ℕ)
  pub row : List (List ℕ) → Result Row ℕ

-- the first of these forms whose header is this record
abbrev pub form_under : {Row : Type 0} → List (List ℕ) → List (FileForm Row) → Option (FileForm Row)
form_under first forms = find (λ form. same_fields first form.header) forms

-- the rows of the records under a header, by the form that has this header
abbrev pub rows_by : {Row : Type 0} → Option (FileForm Row) → List (List (List ℕ)) → Result (List Row) Fault
rows_by None records = Err (plain_fault BadHeader)
rows_by (Some form) records = rows_from (length form.header) form.row 1 records

-- the rows of records, the first of which must be the header of one of these forms
unfoldable pub rows_under : {Row : Type 0} → List (FileForm Row) → List (List (List ℕ)) → Result (List Row) Fault
rows_under forms [] = Err (plain_fault BadHeader)
rows_under forms (first ∷ records) = rows_by (form_under first forms) records

-- the rows of a file of one of these forms, or the first fault in it
unfoldable pub rows_of : {Row : Type 0} → List (FileForm Row) → List ℕ → Result (List Row) Fault
rows_of forms bytes = if nat_lt most_bytes (length bytes) then Err (plain_fault FileTooLarge) else rows_under forms (records_of bytes)

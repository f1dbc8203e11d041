-- The forms of the kinds of file, as the code names them.
use Rattle.hh_rows.specs.declared.rows.Row.{Row}
use Rattle.hh_texts.specs.declared.files.KindForm.{KindForm}
use Rattle.hh_texts.specs.declared.files.KindForm.TheVariants as form
use Rattle.hh_texts.specs.Files.{contract_form, meter_form, party_form, price_form, reallocation_form, unit_form}
use Rattle.hh_texts.specs.Rows.{FileForm}

-- the form that each names
abbrev pub form_of : KindForm → FileForm Row
form_of form.Parties = party_form
form_of form.Units = unit_form
form_of form.Meters = meter_form
form_of form.Prices = price_form
form_of form.Contracts = contract_form
form_of form.Reallocations = reallocation_form

use Rattle.std.proofs.Common.{rules, tests, ap, sym, ◌∙◌}
use Rattle.std.proofs.lemmas.Iterator.{YieldsList-from_slice}
use Rattle.std.proofs.lemmas.Iterator.Search.{find_from_yields_List}
use Rattle.std.specs.Prelude.{option_map}
use Rattle.csv.specs.Records.{fields_of}
use Rattle.hh_texts.specs.Rows.{same_fields}
use Rattle.hh_texts.proofs.RowFacts.{find-map, option_map-twice}
use Rattle.hh_texts.proofs.form.form_under.Goals as goal

pub returns : goal.returns
returns g c =
    let fields = fields_of c.args.header.now in
    let found = find_from_yields_List (λ form. same_fields fields (g.F.Form.form form).header) _ _ c.find.result c.find.ensures.ran (YieldsList-from_slice c.args.forms.now c.iter.ensures.rest)
    (λ x b q k. search (rules, tests)) in
    option_map-twice g.F.Form.form (λ form. form.now) c.find.result
    ∙ ap (option_map g.F.Form.form) found
    ∙ sym (find-map (λ form. same_fields fields form.header) g.F.Form.form c.args.forms.now)

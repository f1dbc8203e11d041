use Rattle.std.proofs.Common.{◌≡◌, ◌∙◌, ◌++◌, codes, rules, sym}
use Rattle.std.proofs.lemmas.List.{append_cancel_left}
use Rattle.hh_sqlschema.proofs.schema.names_key_index.Goals as goal

pub returns-clause-known : goal.returns-clause-known
returns-clause-known c is =
    let rest : c.in-Some.rest.now ≡ c.args.table.now ++ codes "_1" = append_cancel_left (codes "sqlite_autoindex_") _ _ (sym c.in-Some.ensures ∙ is) in
    let end : c.in-Some-after.end.now ≡ codes "_1" = append_cancel_left c.args.table.now _ _ (sym c.in-Some-after.ensures ∙ rest) in
    search rules

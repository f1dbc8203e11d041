use Rattle.std.proofs.Common.{◌∙◌, ap, sym}
use Rattle.hh_tables.specs.Tables.{with_before}
use Rattle.hh_tables.proofs.MergeLaws.{from_true}
use Rattle.hh_tables.proofs.WithoutLaws.{undone}
use Rattle.hh_names.specs.Accounts.{bytes_cmp}
use Rattle.hh_names.proofs.AccountLaws.{bytes_total}
use Rattle.hh_registrations.proofs.ChangeLaws.{found_put}
use Rattle.hh_registrations.proofs.registrations.Registrations.put.Goals as goal

pub put_back-requires : goal.put_back-requires
put_back-requires c there = found_put c.args.row.now.unit c.change_of-change.result.registration c.self.inside.units c.put_row.new.self c.in_ok-put_row.ensures.ok

pub returns-in-Err-clause-err : goal.returns-in-Err-clause-err
returns-in-Err-clause-err c =
    (λ i. record {
      units = (c.put_back.ensures ∙ ap (with_before bytes_cmp c.args.row.now.unit c.get-before.result) c.in_ok-put_row.ensures.ok
          ∙ undone bytes_total c.args.row.now.unit c.change_of-change.result.registration c.get-before.result c.self.inside.units (from_true _ c.get-before.ensures.rising) (sym c.get-before.ensures.value)) i;
      leads = c.in-Err.ensures.err i;
    })
    ∙ c.self.view_is

-- From rows to the text of the settled period.
use Rattle.std.proofs.Common.{◌≡◌, true, List, [], ◌∷◌, ◌++◌, map, Ok, refl, sym, ap, ◌∙◌}
use Rattle.std.specs.List.{flat_map}
use Rattle.hh_names.specs.declared.account.Account.{Account}
use Rattle.hh_calc.specs.declared.result.AccountRow.{AccountRow}
use Rattle.hh_calc.specs.Formulas.{figures}
use Rattle.hh_calc.specs.Limits.{is_within_limits}
use Rattle.hh_calc.specs.Settled.{figures_of, IsSettled}
use Rattle.hh_calc.specs.Terms.{PeriodDataView, Settled}
use Rattle.hh_period.specs.Outcome.{settled_text}
use Rattle.hh_period.specs.PeriodText.{account_line, residual_line}
use Rattle.hh_period.specs.steps.PeriodText.{settled_lines}

-- the text of the settled figures is the text of the period
pub settled_is : (p : PeriodDataView) (s : Settled) → IsSettled p s → is_within_limits p ≡ true
    → settled_text p ≡ Ok (settled_lines s)
settled_is p s h within = rw within (ap Ok (λ i. lines i ++ residual_line (sym h.remainder i)))
  where
    by_row : (rows : List AccountRow) → flat_map account_line (map figures_of rows) ≡ flat_map (λ r. account_line (figures_of r)) rows
    by_row [] = refl
    by_row (r ∷ rows) = ap (λ more. account_line (figures_of r) ++ more) (by_row rows)

    by_account : (accounts : List Account) → flat_map account_line (map (figures p) accounts) ≡ flat_map (λ a. account_line (figures p a)) accounts
    by_account [] = refl
    by_account (a ∷ accounts) = ap (λ more. account_line (figures p a) ++ more) (by_account accounts)

    lines : flat_map (λ a. account_line (figures p a)) p.accounts ≡ flat_map (λ r. account_line (figures_of r)) s.accounts
    lines = sym (by_account p.accounts) ∙ sym (ap (flat_map account_line) h.rows) ∙ by_row s.accounts

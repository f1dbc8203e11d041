-- The tests of equal rows, credits and settled periods hold exactly for equal ones.
use Rattle.std.proofs.Common.{◌≡◌, List, [], ◌∷◌, refl, sym, ap, ◌∙◌, Bool}
use Rattle.std.specs.Bool.{Decides}
use Rattle.std.specs.Cmp.{Equal-is}
use Rattle.std.specs.Cmp.Lexicographic.{pointwise}
use Rattle.std.proofs.lemmas.Bool.Decides.{Decides-and, Decides-int_eq, Decides-like}
use Rattle.std.proofs.lemmas.Slice.Eq.{bytes_eq-Decides}
use Rattle.std.specs.Cmp.{eq_by_cmp_equiv}
use Rattle.hh_names.specs.declared.account.Account.{Account}
use Rattle.hh_names.specs.Accounts.{account_cmp, is_same_account}
use Rattle.hh_names.proofs.AccountLaws.{account_total, exact_accounts}
use Rattle.hh_calc.specs.declared.result.AccountRow.{AccountRow}
use Rattle.hh_calc.specs.declared.result.CreditRow.{CreditRow}
use Rattle.hh_calc.specs.Terms.{Settled}
use Rattle.hh_states.specs.Beside.{is_same_credit, is_same_period, is_same_row}

-- the test of equal accounts holds exactly for equal ones
tells_accounts : (a b : Account) → Decides (is_same_account a b) (a ≡ b)
tells_accounts a b = (
  λ same. exact_accounts a b ((Equal-is (account_cmp a b)).0 same),
  λ one. ap (is_same_account a) (sym one) ∙ (eq_by_cmp_equiv account_total).refl a,
)

-- lists that are equal have equal first elements, and equal rests
first_same : {X : Type 0} (x y : X) (xs ys : List X) → x ∷ xs ≡ y ∷ ys → x ≡ y
first_same x y xs ys one = cc

rest_same : {X : Type 0} (x y : X) (xs ys : List X) → x ∷ xs ≡ y ∷ ys → xs ≡ ys
rest_same x y xs ys one = cc

-- a test that holds exactly for equal elements gives one for equal lists
tells_lists : {X : Type 0} (test : X → X → Bool) → ((x y : X) → Decides (test x y) (x ≡ y)) → (xs ys : List X) → Decides (pointwise test xs ys) (xs ≡ ys)
tells_lists test tells [] [] = (λ same. refl, λ one. refl)
tells_lists test tells [] (y ∷ ys) = (λ same. cc, λ one. cc)
tells_lists test tells (x ∷ xs) [] = (λ same. cc, λ one. cc)
tells_lists test tells (x ∷ xs) (y ∷ ys) =
    Decides-like (pointwise test (x ∷ xs) (y ∷ ys)) (λ parts i. parts.0 i ∷ parts.1 i) (λ one. (first_same x y xs ys one, rest_same x y xs ys one))
    (Decides-and (test x y) (pointwise test xs ys) (tells x y) (tells_lists test tells xs ys))

pub tells_rows : (r q : AccountRow) → Decides (is_same_row r q) (r ≡ q)
tells_rows r q =
    Decides-like (is_same_row r q)
    (λ parts i. record {
      account = parts.0.0.0.0.0.0 i;
      credited = parts.0.0.0.0.0.1 i;
      balancing = parts.0.0.0.0.1 i;
      contracts = parts.0.0.0.1 i;
      imbalance = parts.0.0.1 i;
      charge = parts.0.1 i;
      share = parts.1 i;
    })
    (λ one. ((((((λ i. (one i).account, λ i. (one i).credited), λ i. (one i).balancing), λ i. (one i).contracts), λ i. (one i).imbalance), λ i. (one i).charge), λ i. (one i).share))
    (Decides-and _ _
    (Decides-and _ _
    (Decides-and _ _
    (Decides-and _ _
    (Decides-and _ _ (Decides-and _ _ (tells_accounts r.account q.account) (Decides-int_eq r.credited q.credited)) (Decides-int_eq r.balancing q.balancing))
    (Decides-int_eq r.contracts q.contracts))
    (Decides-int_eq r.imbalance q.imbalance))
    (Decides-int_eq r.charge q.charge))
    (Decides-int_eq r.share q.share))

pub tells_credits : (c d : CreditRow) → Decides (is_same_credit c d) (c ≡ d)
tells_credits c d =
    Decides-like (is_same_credit c d) (λ parts i. record { unit = parts.0.0 i; account = parts.0.1 i; credited = parts.1 i })
    (λ one. ((λ i. (one i).unit, λ i. (one i).account), λ i. (one i).credited))
    (Decides-and _ _ (Decides-and _ _ (bytes_eq-Decides c.unit d.unit) (tells_accounts c.account d.account)) (Decides-int_eq c.credited d.credited))

pub tells_periods : (s t : Settled) → Decides (is_same_period s t) (s ≡ t)
tells_periods s t =
    Decides-like (is_same_period s t) (λ parts i. record { accounts = parts.0.0 i; credits = parts.0.1 i; residual = parts.1 i })
    (λ one. ((λ i. (one i).accounts, λ i. (one i).credits), λ i. (one i).residual))
    (Decides-and _ _
    (Decides-and _ _ (tells_lists is_same_row tells_rows s.accounts t.accounts) (tells_lists is_same_credit tells_credits s.credits t.credits))
    (Decides-int_eq s.residual t.residual))

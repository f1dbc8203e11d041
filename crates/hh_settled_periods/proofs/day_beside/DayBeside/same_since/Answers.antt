use Rattle.std.proofs.Common.{◌≡◌, rules, sym, ap, subst, ◌∙◌, List, [], ◌∷◌, refl, map, true, Option, Some, None}
use Rattle.std.specs.Prelude.{IfSome}
use Rattle.hh_calc.specs.Terms.{Settled, settled_as}
use Rattle.hh_states.specs.Beside.{credit_row}
use Rattle.hh_settled_periods.specs.SettledPeriods.{IsSameAs, IsSameSince}
use Rattle.hh_settled_periods.proofs.day_beside.DayBeside.same_since.Goals as goal

-- a weaker property of what was found follows from a stronger one
weaker : {X : Type 0} (P Q : X → Type 0) → ((x : X) → P x → Q x) → (o : Option X) → IfSome o P → IfSome o Q
weaker P Q follows None h = h
weaker P Q follows (Some x) h = follows x h

-- mapping twice
twice : {X Y Z : Type 0} (f : Y → Z) (g : X → Y) (xs : List X) → map f (map g xs) ≡ map (λ x. f (g x)) xs
twice f g [] = refl
twice f g (x ∷ xs) = ap (λ l. f (g x) ∷ l) (twice f g xs)

pub returns : goal.returns
returns c tables of_date =
    let beside = c.args.self.now in
    let at = c.args.at.now in
    let run = c.in-Some.run' in
    let summary = c.in-Some.summary in
    let kept : c.is_untouched.result ≡ true = search (rules, c.if-not-is_untouched.false) in
    let right : c.are_accounts_of.result ≡ true = search (rules, c.if-not-are_accounts_of.false) in
    let named = c.are_accounts_of.ensures right in
    let rows = c.in_ok-account_rows.ensures ∙ ap (map (λ e. e.1)) c.results_at-rows.ensures in
    let credits = c.in_ok-credit_rows.ensures ∙ ap (map credit_row) c.credits_at-credits.ensures in
    subst (λ latest. IfSome c.of_rows-result.result (IsSameAs tables beside at latest)) (sym c.in-Some.is)
    (weaker (λ s. s ≡ settled_as c.in_ok-account_rows.field-0.items c.in_ok-credit_rows.field-0.items) (IsSameSince tables beside at run summary) (λ s is. record {
      first = (c.is_untouched.ensures.within kept).0;
      last = (c.is_untouched.ensures.within kept).1;
      untouched = c.is_untouched.ensures.untouched kept;
      accounts = ap (λ (t : Settled). map (λ r. r.account) t.accounts) is ∙ ap (map (λ r. r.account)) c.in_ok-account_rows.ensures ∙ twice (λ r. r.account) (λ e. e.1) c.results_at-rows.result.now ∙ named ∙ of_date;
      settled = is ∙ (λ i. settled_as (rows i) (credits i));
    }) c.of_rows-result.result c.of_rows-result.ensures)

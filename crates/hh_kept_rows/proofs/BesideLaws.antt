-- What is read from the rows of a date and what is kept beside them is what is read from all tables.
use Rattle.std.proofs.Common.{◌≡◌, ℕ, List, [], ◌∷◌, map, refl, sym, ap, subst, ◌∙◌, true, Option, Some, None, inl, inr}
use Rattle.std.specs.Prelude.{pos, filter, unwrap_or}
use Rattle.std.specs.List.{AllByRecursion, AllZip}
use Rattle.std.specs.Ordering.{eq_by_cmp}
use Rattle.std.proofs.lemmas.Bool.{and_parts}
use Rattle.std.proofs.lemmas.List.Elements.{recursion_from_All}
use Rattle.hh_num.proofs.TotalLaws.{total-map}
use Rattle.hh_tables.proofs.FilterLaws.{filter_within}
use Rattle.hh_names.specs.declared.account.Account.{Account}
use Rattle.hh_rows.specs.declared.rows.ContractRow.{ContractRow}
use Rattle.hh_rows.specs.declared.settlement_period.SettlementPeriod.{SettlementPeriod}
use Rattle.hh_rules.specs.History.{Registered}
use Rattle.hh_rules.specs.Positions.{position_in}
use Rattle.hh_rules.specs.declared.positions.Position.{Position}
use Rattle.hh_rules.specs.declared.positions.Position.TheVariants.{Known, Lost}
use Rattle.hh_rules.specs.declared.positions.PositionKey.{PositionKey}
use Rattle.hh_calc.specs.Formulas.{net_kwh, net_kwh_of}
use Rattle.hh_calc.specs.Terms.{Net, PeriodDataView, Settled, settled_as}
use Rattle.hh_runs.specs.declared.run_key.RunKey.{RunKey}
use Rattle.hh_runs.specs.declared.summary.Summary.{Summary}
use Rattle.hh_states.specs.Content.{Content}
use Rattle.hh_states.specs.PeriodSettlement.{accounts_on, rows_in_force, terms_at}
use Rattle.hh_states.specs.Runs.{run_key_cmp}
use Rattle.hh_store.specs.declared.day_data.PeriodState.{PeriodState}
use Rattle.hh_store.specs.declared.day_data.PeriodState.TheVariants.{Changed, Same}
use Rattle.hh_store.specs.DayReads.{ArePeriodsOf, IsNetted, IsPeriodOf, IsStateOf}
use Rattle.hh_states.specs.Beside.{Beside, agrees, are_positions_right, credit_row, is_credit_of, is_result_of, latest_on, period_of_run}
use Rattle.hh_beside.specs.PositionLaws.{are_known, is_known, position_key_at, volume_in, net_volumes_at}
use Rattle.hh_beside.proofs.DayAccountedFor.{untouched_is_settled}
use Rattle.hh_beside.proofs.PositionLoads.{known_is_net}
use Rattle.hh_kept_rows.specs.DayBeside.{IsBesideOf, IsNetBeside, IsSameAs, IsStateBeside, ReadByWhatIsBeside, result_beside}
use Rattle.hh_kept_rows.specs.DayRows.{HasRowsOn}
use Rattle.hh_settled_periods.specs.declared.day_beside.DayBeside.{DayBeside}
use Rattle.hh_kept_rows.proofs.DayRowLaws.{settled_alike, terms_alike}

-- a known position is its volume
known_volume : (p : Position) → is_known p ≡ true → p ≡ Known (volume_in p)
known_volume (Known net) known = refl
known_volume Lost known = cc

module _ (content : Content) (beside : Beside) (agree : agrees content beside ≡ true) (date : ℕ) (part : Registered) (held : DayBeside) (has : HasRowsOn date content.registered part)
    (is : IsBesideOf content beside date held) (at : SettlementPeriod) (on : at.date ≡ date) where
  abbrev whole : Registered
  whole = content.registered

  same_terms : terms_at part at ≡ terms_at whole at
  same_terms = terms_alike date whole part has at on

  same_accounts : accounts_on part at.date ≡ accounts_on whole at.date
  same_accounts = ap (λ (p : PeriodDataView). p.accounts) same_terms

  -- the known position of an account is what it sells less what it buys
  net_of_account : (a : Account) → is_known (position_in held.positions (position_key_at at a)) ≡ true
      → volume_in (position_in held.positions (position_key_at at a)) ≡ net_kwh (map (λ (r : ContractRow). r.contract) (rows_in_force whole at)) a
  net_of_account a known =
      let key : PositionKey = position_key_at at a in
      let found : position_in held.positions key ≡ position_in beside.positions key = ap (λ o. unwrap_or o (Known (pos 0))) (is.positions key on) in
      let right : are_positions_right whole beside.positions ≡ true = (and_parts _ _ agree).0 in
      known_is_net whole beside.positions key (volume_in (position_in held.positions key)) right (sym found ∙ known_volume (position_in held.positions key) known)
      ∙ sym (total-map (net_kwh_of a) (λ (r : ContractRow). r.contract) (rows_in_force whole at))

  nets_of_accounts : (accounts : List Account) → are_known held.positions at accounts ≡ true
      → net_volumes_at held.positions at accounts ≡ map (net_kwh (map (λ (r : ContractRow). r.contract) (rows_in_force whole at))) accounts
  nets_of_accounts [] known = refl
  nets_of_accounts (a ∷ accounts) known =
      let parts = and_parts _ _ known in
      λ i. net_of_account a parts.0 i ∷ nets_of_accounts accounts parts.1 i

  is_netted : (p : PeriodDataView) → IsNetBeside part held at p → IsNetted (terms_at whole at) p
  is_netted p net = record {
    same = net.same
        ∙ ap (λ (t : PeriodDataView). record t { contracts = Net (net_volumes_at held.positions at t.accounts) }) same_terms
        ∙ ap (λ nets. record (terms_at whole at) { contracts = Net nets })
        (nets_of_accounts (accounts_on whole at.date) (subst (λ l. are_known held.positions at l ≡ true) same_accounts net.known));
    sizes = net.sizes;
  }

  -- the rows of the latest run of the date are those of the run out of all rows
  same_period : (run : RunKey) (summary : Summary) → latest_on content date ≡ Some (run, summary) → (period : ℕ) → result_beside held run period ≡ period_of_run content run period
  same_period run summary latest period =
      (λ i. settled_as (map (λ e. e.1) (filter (is_result_of run period) (is.results (run, summary) latest i)))
      (map credit_row (filter (is_credit_of run period) (is.credits (run, summary) latest i))))
      ∙ (λ i. settled_as
      (map (λ e. e.1) (filter_within (is_result_of run period) (λ e. eq_by_cmp run_key_cmp e.0.run run) (λ e h. (and_parts _ _ h).0) content.results i))
      (map credit_row (filter_within (is_credit_of run period) (λ e. eq_by_cmp run_key_cmp e.0.run run) (λ e h. (and_parts _ _ h).0) content.credits i)))

  is_settled : (o : Option (RunKey × Summary)) (s : Settled) → latest_on content at.date ≡ o → IsSameAs part held at o s → IsStateOf (terms_at whole at) (Same s)
  is_settled None s latest same = absurd same
  is_settled (Some (run, summary)) s latest same =
      let on_date : latest_on content date ≡ Some (run, summary) = ap (latest_on content) (sym on) ∙ latest in
      let s_is : s ≡ period_of_run content run at.period = same.settled ∙ same_period run summary on_date at.period in
      let settled = untouched_is_settled content beside.touched at run summary (and_parts _ _ agree).1 latest same.first same.last (sym (is.touched at on) ∙ same.untouched)
      (ap (λ (t : Settled). map (λ r. r.account) t.accounts) (sym s_is) ∙ same.accounts ∙ same_accounts) in
      (s_is ∙ settled.0, settled.1)

  state_of : (state : PeriodState) → IsStateBeside part held at state → IsPeriodOf whole at state
  state_of (Changed p) (inl rows) = inl (rows.same ∙ same_terms)
  state_of (Changed p) (inr net) = inr (is_netted p net)
  state_of (Same s) same = is_settled held.latest s (ap (latest_on content) on ∙ sym is.latest) same

module _ (content : Content) (beside : Beside) (agree : agrees content beside ≡ true) (date : ℕ) (part : Registered) (held : DayBeside) (has : HasRowsOn date content.registered part)
    (is : IsBesideOf content beside date held) where
  states_of : (periods : List SettlementPeriod) (states : List PeriodState) → AllByRecursion (λ (at : SettlementPeriod). at.date ≡ date) periods
      → AllZip (IsStateBeside part held) periods states → ArePeriodsOf content.registered periods states
  states_of [] [] on are = are
  states_of [] (state ∷ states) on are = are
  states_of (at ∷ periods) [] on are = are
  states_of (at ∷ periods) (state ∷ states) on are = (state_of content beside agree date part held has is at on.0 state are.0, states_of periods states on.1 are.1)

pub read_beside : ReadByWhatIsBeside
read_beside content beside agree date part held has is periods on day read =
    let alike = settled_alike date content.registered part has in
    record {
      price = read.price ∙ alike.missing_price periods on;
      meter = read.meter ∙ alike.missing_meter periods on;
      terms = λ no_price no_meter. states_of content beside agree date part held has is periods day.periods.items (recursion_from_All _ periods on) read.states;
    }

-- What is kept beside the tables continues to agree with them: its positions and its touched Settlement Periods.
use Rattle.std.proofs.Common.{◌≡◌, ◌∙◌, List, [], ◌∷◌, ◌++◌, Bool, true, false, refl, sym, ap, subst}
use Rattle.std.specs.Prelude.{◌||◌, IsTrue}
use Rattle.std.specs.Ordering.{eq_by_cmp}
use Rattle.std.proofs.lemmas.Bool.{and_from, and_parts}
use Rattle.hh_states.specs.Changes.{load_change, run_change}
use Rattle.hh_states.specs.Content.{Content, tables_of}
use Rattle.hh_states.specs.Steps.{after_load, after_run}
use Rattle.hh_rules.specs.declared.positions.Position.{Position}
use Rattle.hh_rules.specs.declared.positions.PositionKey.{PositionKey}
use Rattle.hh_tables.specs.Tables.{Table}
use Rattle.hh_states.specs.Beside.{Beside, agrees, are_days_accounted_for, are_positions_right, is_among}
use Rattle.hh_rows.specs.Keys.{settlement_period_cmp}
use Rattle.hh_rows.specs.declared.settlement_period.SettlementPeriod.{SettlementPeriod}
use Rattle.hh_beside.specs.DayLaws.{HaveTheSame}
use Rattle.hh_beside.specs.Keeping.{beside_of, beside_with_load, beside_with_run}
use Rattle.hh_beside.specs.Laws.{AreAlike, LoadsAgree, MadeAnewAgrees, RunsAgree}
use Rattle.hh_beside.proofs.DayAccountedFor.{accounted_for_by_the_same, accounted_for_where_all_touched}
use Rattle.hh_beside.proofs.DayLoads.{accounted_for_after_loads}
use Rattle.hh_beside.proofs.DayRuns.{accounted_for_after_runs}
use Rattle.hh_beside.proofs.PositionLoads.{loads_keep_positions, runs_keep_positions}
use Rattle.hh_beside.proofs.PositionMade.{made_anew_are_right}

-- if two are alike and one agrees, the other agrees too
alike_agrees : (content : Content) (these those : Beside) → AreAlike these those → IsTrue (are_positions_right content.registered those.positions)
    → IsTrue (are_days_accounted_for content those.touched) → IsTrue (agrees content these)
alike_agrees content these those alike right accounted =
    and_from _ _ (subst (λ (positions : Table PositionKey Position). are_positions_right content.registered positions ≡ true) (sym alike.0) right)
    (accounted_for_by_the_same content these.touched those.touched alike.1 ∙ accounted)

pub loads_agree : LoadsAgree
loads_agree midnight s load beside after reached can agreed alike =
    let parts = and_parts _ _ agreed in
    alike_agrees (tables_of midnight (after_load midnight s load)) after (beside_with_load (load_change midnight s load) (tables_of midnight s) beside) alike
    (loads_keep_positions midnight s load beside.positions reached can parts.0)
    (accounted_for_after_loads midnight s load beside.touched reached can parts.1)

pub runs_agree : RunsAgree
runs_agree midnight s moment key beside after reached can agreed alike =
    let parts = and_parts _ _ agreed in
    alike_agrees (tables_of midnight (after_run s key)) after (beside_with_run (run_change midnight s key) beside) alike
    (runs_keep_positions midnight s key beside.positions parts.0)
    (accounted_for_after_runs midnight s moment key beside.touched reached can parts.1)

pub made_anew_agrees : MadeAnewAgrees
made_anew_agrees content made alike =
    alike_agrees content made (beside_of content) alike (made_anew_are_right content.registered) (accounted_for_where_all_touched content)

-- ---- lists of Settlement Periods with more appended

or_again : (p q r : Bool) → (p || (q || r)) ≡ ((p || q) || r)
or_again true q r = refl
or_again false q r = refl

-- a period is among two lists together if it is among one of them
pub among_both : (these those : List SettlementPeriod) (at : SettlementPeriod) → is_among (these ++ those) at ≡ (is_among these at || is_among those at)
among_both [] those at = refl
among_both (p ∷ these) those at =
    ap (λ b. eq_by_cmp settlement_period_cmp p at || b) (among_both these those at)
    ∙ or_again (eq_by_cmp settlement_period_cmp p at) (is_among these at) (is_among those at)

-- lists that have the same periods still do with more appended
pub same_with_more : (these those more : List SettlementPeriod) → HaveTheSame these those → HaveTheSame (these ++ more) (those ++ more)
same_with_more these those more same at =
    among_both these more at ∙ (ap (λ b. b || is_among more at) (same at) ∙ sym (among_both those more at))

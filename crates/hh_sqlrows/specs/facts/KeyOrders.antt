-- The orders of files, of positions and of the keys of runs, results, credits and postings are total, and two that they find equal are the same.
use Rattle.std.proofs.Common.{◌≡◌, ℕ, List, refl, ap, sym, ◌∙◌, Some, Ordering}
use Rattle.std.specs.Prelude.{unwrap_or}
use Rattle.std.specs.Cmp.{IsTotalOrder, nat_cmp_total, on_total, then_total}
use Rattle.std.specs.Ordering.{nat_cmp, on, ordering_then}
use Rattle.std.proofs.lemmas.Map.Lookups.{CmpEqualImpliesEq, exact_bytes, exact_pairs, exact_unsigned}
use Rattle.hh_names.specs.declared.account.Account.{Account}
use Rattle.hh_names.specs.Accounts.{account_cmp, bytes_cmp}
use Rattle.hh_names.proofs.AccountLaws.{account_total, bytes_total, exact_accounts}
use Rattle.hh_rows.specs.declared.file_kind.FileKind.{FileKind}
use Rattle.hh_rows.specs.declared.file_kind.FileKind.TheVariants.{Parties, Units, Meters, Prices, Contracts, Reallocations}
use Rattle.hh_rows.specs.Kinds.{kind_value, kind_word}
use Rattle.hh_runs.specs.declared.run_kind.RunKind.{RunKind}
use Rattle.hh_runs.specs.RunKinds.{run_kind_cmp}
use Rattle.hh_runs.specs.declared.run_key.RunKey.{RunKey}
use Rattle.hh_runs.proofs.RunKindLaws.{exact_run_kinds, run_kind_total}
use Rattle.hh_states.specs.Content.{credit_key_cmp, posting_key_cmp, result_key_cmp}
use Rattle.hh_states.specs.PeriodSettlement.{UnitAccount, unit_account_cmp}
use Rattle.hh_states.specs.Runs.{run_key_cmp}
use Rattle.hh_states.specs.States.{file_key_cmp}
use Rattle.hh_rows.specs.Keys.{settlement_period_cmp}
use Rattle.hh_rows.specs.declared.settlement_period.SettlementPeriod.{SettlementPeriod}
use Rattle.hh_rows.proofs.KeyLaws.{exact_settlement_periods, settlement_period_total}
use Rattle.hh_keyed_rows.specs.Positions.{position_key_cmp}
use Rattle.hh_sqlrows.specs.OfficeTables.{one_row_cmp}

pub file_key_total : IsTotalOrder file_key_cmp
file_key_total = then_total (on_total (λ k. kind_word k.kind) bytes_total) (on_total (λ k. k.name) bytes_total)

pub run_key_total : IsTotalOrder run_key_cmp
run_key_total = then_total (on_total (λ k. k.date) nat_cmp_total) (on_total (λ k. k.kind) run_kind_total)

pub result_key_total : IsTotalOrder result_key_cmp
result_key_total = then_total (on_total (λ k. k.run) run_key_total) (then_total (on_total (λ k. k.period) nat_cmp_total) (on_total (λ k. k.account) account_total))

pub credit_key_total : IsTotalOrder credit_key_cmp
credit_key_total =
    then_total (on_total (λ k. k.run) run_key_total)
    (then_total (on_total (λ k. k.period) nat_cmp_total) (then_total (on_total (λ k. k.unit) bytes_total) (on_total (λ k. k.account) account_total)))

pub posting_key_total : IsTotalOrder posting_key_cmp
posting_key_total = then_total (on_total (λ k. k.run) run_key_total) (on_total (λ k. k.account) account_total)

-- the word of a kind of file names that kind
named_by_word : (kind : FileKind) → kind_value (kind_word kind) ≡ Some kind
unfolding kind_value
named_by_word Parties = refl
named_by_word Units = refl
named_by_word Meters = refl
named_by_word Prices = refl
named_by_word Contracts = refl
named_by_word Reallocations = refl

exact_kinds : CmpEqualImpliesEq (on kind_word bytes_cmp)
exact_kinds a b e =
    ap (λ o. unwrap_or o a) (sym (named_by_word a) ∙ ap kind_value (exact_bytes (kind_word a) (kind_word b) e) ∙ named_by_word b)

pub exact_file_keys : CmpEqualImpliesEq file_key_cmp
exact_file_keys a b h =
    ap (λ (p : FileKind × List ℕ). record { kind = p.0; name = p.1 }) (exact_pairs (on kind_word bytes_cmp) bytes_cmp exact_kinds exact_bytes (a.kind, a.name) (b.kind, b.name) h)

pub exact_run_keys : CmpEqualImpliesEq run_key_cmp
exact_run_keys a b h =
    ap (λ (p : ℕ × RunKind). record { date = p.0; kind = p.1 }) (exact_pairs nat_cmp run_kind_cmp exact_unsigned exact_run_kinds (a.date, a.kind) (b.date, b.kind) h)

abbrev period_account_cmp : ℕ × Account → ℕ × Account → Ordering
period_account_cmp x y = ordering_then (nat_cmp x.0 y.0) (account_cmp x.1 y.1)

pub exact_result_keys : CmpEqualImpliesEq result_key_cmp
exact_result_keys a b h =
    ap (λ (p : RunKey × (ℕ × Account)). record { run = p.0; period = p.1.0; account = p.1.1 })
    (exact_pairs run_key_cmp period_account_cmp exact_run_keys (exact_pairs nat_cmp account_cmp exact_unsigned exact_accounts) (a.run, (a.period, a.account)) (b.run, (b.period, b.account)) h)

abbrev period_unit_cmp : ℕ × UnitAccount → ℕ × UnitAccount → Ordering
period_unit_cmp x y = ordering_then (nat_cmp x.0 y.0) (unit_account_cmp x.1 y.1)

pub exact_credit_keys : CmpEqualImpliesEq credit_key_cmp
exact_credit_keys a b h =
    ap (λ (p : RunKey × (ℕ × UnitAccount)). record { run = p.0; period = p.1.0; unit = p.1.1.0; account = p.1.1.1 })
    (exact_pairs run_key_cmp period_unit_cmp exact_run_keys (exact_pairs nat_cmp unit_account_cmp exact_unsigned (exact_pairs bytes_cmp account_cmp exact_bytes exact_accounts)) (a.run, (a.period, (a.unit, a.account))) (b.run, (b.period, (b.unit, b.account))) h)

pub exact_posting_keys : CmpEqualImpliesEq posting_key_cmp
exact_posting_keys a b h =
    ap (λ (p : RunKey × Account). record { run = p.0; account = p.1 }) (exact_pairs run_key_cmp account_cmp exact_run_keys exact_accounts (a.run, a.account) (b.run, b.account) h)

pub one_row_total : IsTotalOrder one_row_cmp
one_row_total = on_total (λ _. 0) nat_cmp_total

pub exact_one_rows : CmpEqualImpliesEq one_row_cmp
exact_one_rows a b h = refl

pub position_key_total : IsTotalOrder position_key_cmp
position_key_total = then_total (on_total (λ k. k.at) settlement_period_total) (on_total (λ k. k.account) account_total)

pub exact_position_keys : CmpEqualImpliesEq position_key_cmp
exact_position_keys a b h =
    ap (λ (p : SettlementPeriod × Account). record { at = p.0; account = p.1 }) (exact_pairs settlement_period_cmp account_cmp exact_settlement_periods exact_accounts (a.at, a.account) (b.at, b.account) h)

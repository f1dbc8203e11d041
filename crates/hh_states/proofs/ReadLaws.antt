-- What is read from the tables of a state.
use Rattle.std.proofs.Common.{◌≡◌, List, [], ◌∷◌, refl, sym, ap, ◌∙◌, true, false, cond, Some, None}
use Rattle.std.specs.Prelude.{ℤ, pos, ◌+ℤ◌, filter_map}
use Rattle.std.specs.List.{cons_option}
use Rattle.std.proofs.Math.IntN.{+ℤ_idl}
use Rattle.hh_rules.specs.Totals.{total}
use Rattle.hh_rules.proofs.TableLaws.{find-in_key_order}
use Rattle.hh_rules.specs.account.Account.{Account}
use Rattle.hh_rules.specs.Accounts.{is_same_account}
use Rattle.hh_states.specs.declared.run_keys.PostingKey.{PostingKey}
use Rattle.hh_states.specs.Reads.{HoldsFiles, posting_to}
use Rattle.hh_states.specs.Sums.{posted_to}
use Rattle.hh_states.proofs.KeyLaws.{file_key_total}

-- the file that the tables of a state have is the one that was accepted
pub holds_files : HoldsFiles
holds_files midnight s key = find-in_key_order file_key_total s.files key

-- the postings that are read for an account have the same sum as those of its keys
pub postings_read : (a : Account) (es : List (PostingKey × ℤ)) → total (λ e. e.1) (filter_map (posting_to a) es) ≡ posted_to a es
postings_read a [] = refl
postings_read a (e ∷ es) =
    let rest = postings_read a es in
    elim (is_same_account e.0.account a) as (λ b. total (λ x. x.1) (cons_option (cond b (Some (e.0.run, e.1)) None) (filter_map (posting_to a) es)) ≡ cond b e.1 (pos 0) +ℤ posted_to a es) [
      | true ↦ ap (λ z. e.1 +ℤ z) rest
      | false ↦ rest ∙ sym (+ℤ_idl (posted_to a es))
    ]

-- What the rows of a run make of the content.
use Rattle.std.proofs.Common.{true, ◌≡◌, ◌∙◌, List, [], ◌∷◌, ℤ, Ordering, Result, OnOk, map, arith, refl, sym, ap, subst}
use Rattle.std.specs.FinMap.{put}
use Rattle.std.specs.FinMap.Entries.{by_order}
use Rattle.std.specs.declared.cmp.Ordering.TheVariants.{Less, Equal, Greater}
use Rattle.std.proofs.lemmas.List.Elements.{All-head, All-tail}
use Rattle.std.proofs.lemmas.Map.Lookups.{CmpEqualImpliesEq}
use Rattle.std.proofs.lemmas.Result.{on_ok_weaker}
use Rattle.hh_tables.specs.Tables.{Table, put_all}
use Rattle.sqlite.specs.Effect.{Database}
use Rattle.hh_calc.specs.declared.result.AccountRow.{AccountRow}
use Rattle.hh_runs.specs.declared.run_key.RunKey.{RunKey}
use Rattle.hh_runs.specs.declared.summary.Summary.{Summary}
use Rattle.hh_states.specs.declared.run_keys.CreditKey.{CreditKey}
use Rattle.hh_states.specs.declared.run_keys.PostingKey.{PostingKey}
use Rattle.hh_states.specs.declared.run_keys.ResultKey.{ResultKey}
use Rattle.hh_states.specs.Changes.{RunChangeView}
use Rattle.hh_states.specs.Content.{Content, credit_key_cmp, posting_key_cmp, result_key_cmp}
use Rattle.hh_states.specs.Runs.{run_key_cmp}
use Rattle.hh_states.proofs.KeyLaws.{exact_result_keys}
use Rattle.hh_sqlrows.specs.amounts.AccountAmounts.{AccountAmounts}
use Rattle.hh_sqlrows.specs.Values.{account_row_of, amounts_of}
use Rattle.hh_sqlrows.specs.Contents.{result_of}
use Rattle.hh_sqlrows.specs.Forms.{PutsAll}
use Rattle.hh_sqlrows.specs.steps.Forms.{Puts}
use Rattle.hh_sqlrows.specs.OfficeTables as forms
use Rattle.hh_sqlchanges.specs.OwnAccounts.{AreOfTheirAccounts}
use Rattle.hh_sqlchanges.specs.steps.Becoming.{Becomes, StoresRunAlone}
use Rattle.hh_sqlchanges.proofs.StayLaws.{beside_kept, credits_kept, files_kept, postings_kept, registered_kept, results_kept, runs_kept, stays_office, stays_then}

-- ---- values that a function makes from a key and its value

module _ {K V W : Type 0} (R : K → K → Ordering) (exact : CmpEqualImpliesEq R) (f : K → V → W) where
  abbrev shown : K × V → K × W
  shown e = (e.0, f e.0 e.1)

  shown_put : (k : K) (v : V) (es : Table K V) → map shown (put R k v es) ≡ put R k (f k v) (map shown es)
  shown_put k v [] = refl
  shown_put k v (e ∷ es) = elim (R k e.0) as (λ o. R k e.0 ≡ o → map shown (by_order o ((k, v) ∷ e ∷ es) ((e.0, v) ∷ es) (e ∷ put R k v es)) ≡ by_order o ((k, f k v) ∷ map shown (e ∷ es)) ((e.0, f k v) ∷ map shown es) (shown e ∷ put R k (f k v) (map shown es))) [
    | Less ↦ λ is. refl
    | Equal ↦ λ is. ap (λ key. (e.0, f key v) ∷ map shown es) (sym (exact k e.0 is))
    | Greater ↦ λ is. ap (λ more. shown e ∷ more) (shown_put k v es)
  ] refl

-- ---- the rows of accounts

row_shown : (e : ResultKey × AccountRow) → e.1.account ≡ e.0.account → account_row_of e.0.account (amounts_of e.1) ≡ e.1
row_shown e own = ap (λ account. account_row_of account (amounts_of e.1)) (sym own)

results_shown : (es : List (ResultKey × AccountRow)) (rows : Table ResultKey AccountAmounts) → AreOfTheirAccounts es
    → map result_of (put_all result_key_cmp (map forms.amount_entry es) rows) ≡ put_all result_key_cmp es (map result_of rows)
results_shown [] rows own = refl
results_shown (e ∷ es) rows own =
    results_shown es (put result_key_cmp e.0 (amounts_of e.1) rows) (All-tail (λ (x : ResultKey × AccountRow). x.1.account ≡ x.0.account) e es own)
    ∙ ap (put_all result_key_cmp es) (shown_put result_key_cmp exact_result_keys (λ k a. account_row_of k.account a) e.0 (amounts_of e.1) rows
    ∙ ap (λ r. put result_key_cmp e.0 r (map result_of rows)) (row_shown e (All-head (λ (x : ResultKey × AccountRow). x.1.account ≡ x.0.account) e es own)))

-- ---- each of the four tables

module _ (old new : Database) where
  run_put : (key : RunKey) (summary : Summary) → Puts forms.runs key summary old new → Becomes (λ c. record c { runs = put run_key_cmp key summary c.runs }) old new
  run_put key summary puts = record {
    stays = stays_office 18 old new puts.is_office puts.others (omega arith) (λ e. omega (arith, e));
    content = λ kept i. record {
      settings = kept;
      registered = registered_kept 18 old.trees new.trees puts.others (omega arith) (omega arith) i;
      files = files_kept 18 old.trees new.trees puts.others (λ e. omega (arith, e)) i;
      runs = puts.rows i;
      results = ap (map result_of) (results_kept 18 old.trees new.trees puts.others (λ e. omega (arith, e))) i;
      credits = credits_kept 18 old.trees new.trees puts.others (λ e. omega (arith, e)) i;
      postings = postings_kept 18 old.trees new.trees puts.others (λ e. omega (arith, e)) i;
      is_in_step = true;
    };
    beside = beside_kept 18 old.trees new.trees puts.others (omega arith);
  }

  results_put : (es : List (ResultKey × AccountRow)) → PutsAll forms.results (map forms.amount_entry es) old new → AreOfTheirAccounts es
      → Becomes (λ c. record c { results = put_all result_key_cmp es c.results }) old new
  results_put es puts own = record {
    stays = stays_office 20 old new puts.is_office puts.others (omega arith) (λ e. omega (arith, e));
    content = λ kept i. record {
      settings = kept;
      registered = registered_kept 20 old.trees new.trees puts.others (omega arith) (omega arith) i;
      files = files_kept 20 old.trees new.trees puts.others (λ e. omega (arith, e)) i;
      runs = runs_kept 20 old.trees new.trees puts.others (λ e. omega (arith, e)) i;
      results = (ap (map result_of) puts.rows ∙ results_shown es _ own) i;
      credits = credits_kept 20 old.trees new.trees puts.others (λ e. omega (arith, e)) i;
      postings = postings_kept 20 old.trees new.trees puts.others (λ e. omega (arith, e)) i;
      is_in_step = true;
    };
    beside = beside_kept 20 old.trees new.trees puts.others (omega arith);
  }

  credits_put : (es : List (CreditKey × ℤ)) → PutsAll forms.credits es old new → Becomes (λ c. record c { credits = put_all credit_key_cmp es c.credits }) old new
  credits_put es puts = record {
    stays = stays_office 22 old new puts.is_office puts.others (omega arith) (λ e. omega (arith, e));
    content = λ kept i. record {
      settings = kept;
      registered = registered_kept 22 old.trees new.trees puts.others (omega arith) (omega arith) i;
      files = files_kept 22 old.trees new.trees puts.others (λ e. omega (arith, e)) i;
      runs = runs_kept 22 old.trees new.trees puts.others (λ e. omega (arith, e)) i;
      results = ap (map result_of) (results_kept 22 old.trees new.trees puts.others (λ e. omega (arith, e))) i;
      credits = puts.rows i;
      postings = postings_kept 22 old.trees new.trees puts.others (λ e. omega (arith, e)) i;
      is_in_step = true;
    };
    beside = beside_kept 22 old.trees new.trees puts.others (omega arith);
  }

  postings_put : (es : List (PostingKey × ℤ)) → PutsAll forms.postings es old new → Becomes (λ c. record c { postings = put_all posting_key_cmp es c.postings }) old new
  postings_put es puts = record {
    stays = stays_office 24 old new puts.is_office puts.others (omega arith) (λ e. omega (arith, e));
    content = λ kept i. record {
      settings = kept;
      registered = registered_kept 24 old.trees new.trees puts.others (omega arith) (omega arith) i;
      files = files_kept 24 old.trees new.trees puts.others (λ e. omega (arith, e)) i;
      runs = runs_kept 24 old.trees new.trees puts.others (λ e. omega (arith, e)) i;
      results = ap (map result_of) (results_kept 24 old.trees new.trees puts.others (λ e. omega (arith, e))) i;
      credits = credits_kept 24 old.trees new.trees puts.others (λ e. omega (arith, e)) i;
      postings = puts.rows i;
      is_in_step = true;
    };
    beside = beside_kept 24 old.trees new.trees puts.others (omega arith);
  }

-- ---- the whole run

run_written : (w : RunChangeView) (old first second third new : Database) → Puts forms.runs w.key w.summary old first → PutsAll forms.results (map forms.amount_entry w.results) first second
    → PutsAll forms.credits w.credits second third → PutsAll forms.postings w.postings third new → StoresRunAlone w old new
run_written w old first second third new run results credits postings =
    let one = run_put old first w.key w.summary run in
    let three = credits_put second third w.credits credits in
    let four = postings_put third new w.postings postings in
    let two_stays = stays_office 20 first second results.is_office results.others (omega arith) (λ e. omega (arith, e)) in
    record {
      stores = record {
        stays = stays_then old third new (stays_then old second third (stays_then old first second one.stays two_stays) three.stays) four.stays;
        content = λ own. (let two = results_put first second w.results results own in λ kept.
            four.content kept ∙ ap (λ (c : Content). record c { postings = put_all posting_key_cmp w.postings c.postings })
            (three.content kept ∙ ap (λ (c : Content). record c { credits = put_all credit_key_cmp w.credits c.credits })
            (two.content kept ∙ ap (λ (c : Content). record c { results = put_all result_key_cmp w.results c.results }) (one.content kept))));
      };
      beside = four.beside ∙ (three.beside ∙ (beside_kept 20 first.trees second.trees results.others (omega arith) ∙ one.beside));
    }

pub run_made : {X E : Type 0} (w : RunChangeView) (key : RunKey) (summary : Summary) (results : List (ResultKey × AccountRow)) (credits : List (CreditKey × ℤ)) (postings : List (PostingKey × ℤ))
    → key ≡ w.key → summary ≡ w.summary → results ≡ w.results → credits ≡ w.credits → postings ≡ w.postings → (old first second third new : Database) (result : Result X E)
    → Puts forms.runs key summary old first → PutsAll forms.results (map forms.amount_entry results) first second → PutsAll forms.credits credits second third
    → OnOk result (PutsAll forms.postings postings third new) → OnOk result (StoresRunAlone w old new)
run_made w key summary results credits postings is_key is_summary is_results is_credits is_postings old first second third new result run resulted credited posted = on_ok_weaker result (λ put. run_written w old first second third new
    (subst (λ (k : RunKey). Puts forms.runs k w.summary old first) is_key (subst (λ (s : Summary). Puts forms.runs key s old first) is_summary run))
    (subst (λ (es : List (ResultKey × AccountRow)). PutsAll forms.results (map forms.amount_entry es) first second) is_results resulted)
    (subst (λ (es : List (CreditKey × ℤ)). PutsAll forms.credits es second third) is_credits credited)
    (subst (λ (es : List (PostingKey × ℤ)). PutsAll forms.postings es third new) is_postings put)) posted

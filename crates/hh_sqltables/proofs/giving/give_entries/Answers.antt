use Rattle.std.proofs.Common.{◌≡◌, ◌∙◌, ◌++◌, [], ◌∷◌, inl, refl, rules, subst, IsTrue}
use Rattle.sqlite.specs.Held.{state}
use Rattle.sqlite.specs.State.{HasCleanDisk}
use Rattle.sqlite.specs.Values.{bound}
use Rattle.hh_keyed_rows.specs.declared.row_fault.RowFault.TheVariants.{Store}
use Rattle.hh_keyed_rows.proofs.QueryLaws.{clean_by, failed_left, was_open_by}
use Rattle.hh_sqltables.proofs.AnswerLaws.{gives_stopped, gives_stopped_at}
use Rattle.hh_sqltables.proofs.StreamLaws.{AreAll, AreSome, CommitsNone, Leaves, cleaner_before, clean_if, commits_none, giving_begun, giving_more, left_by_last, same_by, some_by, survives_on}
use Rattle.hh_sqltables.specs.Frames.{Stood}
use Rattle.hh_sqltables.proofs.giving.give_entries.Goals as goal

-- ---- the query is refused

pub returns-in-Err-clause-frame : goal.returns-in-Err-clause-frame
returns-in-Err-clause-frame g c =
    let refused = rw c.in-Err.is at c.query.follows.holds-at-none in
    let kept = commits_none g.S.Store g.met.S.Store.shut_if_dirty g.K.Columned.codec g.V.Columned.codec c.args.text.now (bound c.args.params.now) c.args.conn.now c.query.follows.lender-at-none refused.survives in
    record {
      stood = λ stands.
          let refused = rw c.in-Err.is at c.query.follows.holds-at-none in
          let clean = clean_by _ _ (g.met.S.Store.shut_if_dirty c.query.follows.lender-at-none.store) stands in
          was_open_by _ _ (failed_left _ _ _ _ _ (refused.err clean)) stands;
      left =
          let refused = rw c.in-Err.is at c.query.follows.holds-at-none in
          left_by_last g.S.Store g.met.S.Store.shut_if_dirty g.K.Columned.codec g.V.Columned.codec c.args.text.now (bound c.args.params.now) c.args.conn.now c.query.follows.lender-at-none (λ plain clean. failed_left _ _ _ _ _ (refused.err clean));
      outside = search rules;
      stays = search rules;
      honest = search rules;
      faults = kept.0;
      crash = kept.1;
    }

-- ---- the rows so far were taken

pub rows-init : goal.rows-init
rows-init g c =
    let made = c.in-Ok.ensures in
    (refl, giving_begun g.S.Store g.met.S.Store.shut_if_dirty g.K.Columned.codec g.V.Columned.codec c.args.text.now (bound c.args.params.now) c.args.conn.now c.in-Ok.rows.conn.now _ made.mode made.begun made.survives (λ begun report has. has))

pub rows-preserved : goal.rows-preserved
rows-preserved g c =
    let giving = c.rows.invariant.1 in
    let mid = c.next_entry.new.rows.conn.now in
    let read = rw c.in-Some.is at (c.in_ok-key.ensures.next c.args.conn.now c.args.text.now (bound c.args.params.now) giving.taken giving.read) in
    let entry : g.row.K.Denot × g.row.V.Denot = (c.in-Some.key, c.in-Some.value) in (
      c.next_entry.ensures.same_reference ∙ c.rows.invariant.0,
      giving_more g.S.Store g.met.S.Store.shut_if_dirty g.K.Columned.codec g.V.Columned.codec c.args.text.now (bound c.args.params.now) c.args.conn.now c.rows.rows.conn.now _ giving mid c.next_entry.ensures.mode c.next_entry.ensures.stood c.next_entry.ensures.survives entry _ read
          (λ begun report has. c.in_ok-take_row.ensures begun report giving.taken (giving.has begun report has)),
    )

-- ---- the next row is not read

pub returns-in_err-key-clause-gives : goal.returns-in_err-key-clause-gives
returns-in_err-key-clause-gives g c begun report has =
    let giving = c.rows.invariant.1 in
    let mid = c.next_entry.new.rows.conn.now in
    let same : mid ≡ c.conn-in_err-key-1.given.0 = search rules in
    let next = c.in_err-key.ensures.next c.args.conn.now c.args.text.now (bound c.args.params.now) giving.taken giving.read in
    gives_stopped _ _ _ _ c.from_residual.result _ c.from_residual.ensures.1 giving.taken (g.met.T.RowTaker.ends _ _ report giving.taken c.in_err-key.field-0.0 (giving.has begun report has))
    (subst (λ last. AreSome g.S.Store g.met.S.Store.shut_if_dirty g.K.Columned.codec g.V.Columned.codec c.args.text.now (bound c.args.params.now) c.args.conn.now last giving.taken) same (λ stands plain. (next plain (clean_if g.S.Store g.met.S.Store.shut_if_dirty g.K.Columned.codec g.V.Columned.codec c.args.text.now (bound c.args.params.now) c.args.conn.now mid stands)).0))

pub returns-in_err-key-clause-frame : goal.returns-in_err-key-clause-frame
returns-in_err-key-clause-frame g c =
    let giving = c.rows.invariant.1 in
    let mid = c.next_entry.new.rows.conn.now in
    let same : mid ≡ c.conn-in_err-key-1.given.0 = search rules in
    let survived = survives_on g.S.Store g.met.S.Store.shut_if_dirty g.K.Columned.codec g.V.Columned.codec c.args.text.now (bound c.args.params.now) c.args.conn.now c.rows.rows.conn.now mid giving.survives c.next_entry.ensures.survives in
    let kept = subst (CommitsNone g.S.Store g.met.S.Store.shut_if_dirty g.K.Columned.codec g.V.Columned.codec c.args.text.now (bound c.args.params.now) c.args.conn.now) same (commits_none g.S.Store g.met.S.Store.shut_if_dirty g.K.Columned.codec g.V.Columned.codec c.args.text.now (bound c.args.params.now) c.args.conn.now mid survived) in
    record {
      stood = search rules;
      left =
          let giving = c.rows.invariant.1 in
          let mid = c.next_entry.new.rows.conn.now in
          let same : mid ≡ c.conn-in_err-key-1.given.0 = search rules in
          let next = c.in_err-key.ensures.next c.args.conn.now c.args.text.now (bound c.args.params.now) giving.taken giving.read in
          subst (Leaves g.S.Store g.met.S.Store.shut_if_dirty g.K.Columned.codec g.V.Columned.codec c.args.text.now (bound c.args.params.now) c.args.conn.now) same (left_by_last g.S.Store g.met.S.Store.shut_if_dirty g.K.Columned.codec g.V.Columned.codec c.args.text.now (bound c.args.params.now) c.args.conn.now mid (λ plain clean. (next plain clean).1));
      outside = search rules;
      stays = search rules;
      honest = search rules;
      faults = kept.0;
      crash = kept.1;
    }

-- ---- no row is left

pub returns-in_default-clause-gives : goal.returns-in_default-clause-gives
returns-in_default-clause-gives g c begun report has =
    let giving = c.rows.invariant.1 in
    let mid = c.next_entry.new.rows.conn.now in
    let same : mid ≡ c.conn-in_default-1.given.0 = search rules in
    let next = rw c.in_default.is at (c.in_ok-key.ensures.next c.args.conn.now c.args.text.now (bound c.args.params.now) giving.taken giving.read) in
    (giving.taken, giving.has begun report has, subst (λ last. AreAll g.S.Store g.met.S.Store.shut_if_dirty g.K.Columned.codec g.V.Columned.codec c.args.text.now (bound c.args.params.now) c.args.conn.now last giving.taken) same (λ stands plain. (next plain (clean_if g.S.Store g.met.S.Store.shut_if_dirty g.K.Columned.codec g.V.Columned.codec c.args.text.now (bound c.args.params.now) c.args.conn.now mid stands)).0))

pub returns-in_default-clause-frame : goal.returns-in_default-clause-frame
returns-in_default-clause-frame g c =
    let giving = c.rows.invariant.1 in
    let mid = c.next_entry.new.rows.conn.now in
    let same : mid ≡ c.conn-in_default-1.given.0 = search rules in
    let survived = survives_on g.S.Store g.met.S.Store.shut_if_dirty g.K.Columned.codec g.V.Columned.codec c.args.text.now (bound c.args.params.now) c.args.conn.now c.rows.rows.conn.now mid giving.survives c.next_entry.ensures.survives in
    let kept = subst (CommitsNone g.S.Store g.met.S.Store.shut_if_dirty g.K.Columned.codec g.V.Columned.codec c.args.text.now (bound c.args.params.now) c.args.conn.now) same (commits_none g.S.Store g.met.S.Store.shut_if_dirty g.K.Columned.codec g.V.Columned.codec c.args.text.now (bound c.args.params.now) c.args.conn.now mid survived) in
    record {
      stood = search rules;
      left =
          let giving = c.rows.invariant.1 in
          let mid = c.next_entry.new.rows.conn.now in
          let same : mid ≡ c.conn-in_default-1.given.0 = search rules in
          let next = rw c.in_default.is at (c.in_ok-key.ensures.next c.args.conn.now c.args.text.now (bound c.args.params.now) giving.taken giving.read) in
          subst (Leaves g.S.Store g.met.S.Store.shut_if_dirty g.K.Columned.codec g.V.Columned.codec c.args.text.now (bound c.args.params.now) c.args.conn.now) same (left_by_last g.S.Store g.met.S.Store.shut_if_dirty g.K.Columned.codec g.V.Columned.codec c.args.text.now (bound c.args.params.now) c.args.conn.now mid (λ plain clean. inl (next plain clean).1));
      outside = search rules;
      stays = λ opened.
          let same : c.next_entry.new.rows.conn.now ≡ c.conn-in_default-1.given.0 = search rules in
          subst (λ last. HasCleanDisk (state g.S.Store last) → IsTrue (state g.S.Store last).is_open) same c.in_ok-key.ensures.stays;
      honest = search rules;
      faults = kept.0;
      crash = kept.1;
    }

-- ---- the row is not taken

pub returns-in_err-take_row-clause-gives : goal.returns-in_err-take_row-clause-gives
returns-in_err-take_row-clause-gives g c begun report has =
    let giving = c.rows.invariant.1 in
    let mid = c.next_entry.new.rows.conn.now in
    let same : mid ≡ c.conn-in_err-take_row-1.given.0 = search rules in
    let read = rw c.in-Some.is at (c.in_ok-key.ensures.next c.args.conn.now c.args.text.now (bound c.args.params.now) giving.taken giving.read) in
    let entry : g.row.K.Denot × g.row.V.Denot = (c.in-Some.key, c.in-Some.value) in
    let cleaner = cleaner_before _ _ _ c.next_entry.ensures.survives in
    gives_stopped_at _ _ _ _ c.from_residual-in_err-take_row.result _ c.from_residual-in_err-take_row.ensures.1 giving.taken entry (c.in_err-take_row.ensures begun report giving.taken (giving.has begun report has))
    (subst (λ last. AreSome g.S.Store g.met.S.Store.shut_if_dirty g.K.Columned.codec g.V.Columned.codec c.args.text.now (bound c.args.params.now) c.args.conn.now last giving.taken) same (some_by g.S.Store g.met.S.Store.shut_if_dirty g.K.Columned.codec g.V.Columned.codec c.args.text.now (bound c.args.params.now) c.args.conn.now c.rows.rows.conn.now mid giving.taken cleaner giving.read))
    (subst (λ last. AreSome g.S.Store g.met.S.Store.shut_if_dirty g.K.Columned.codec g.V.Columned.codec c.args.text.now (bound c.args.params.now) c.args.conn.now last (giving.taken ++ entry ∷ [])) same (some_by g.S.Store g.met.S.Store.shut_if_dirty g.K.Columned.codec g.V.Columned.codec c.args.text.now (bound c.args.params.now) c.args.conn.now mid mid (giving.taken ++ entry ∷ []) (λ clean. clean) read))

pub returns-in_err-take_row-clause-frame : goal.returns-in_err-take_row-clause-frame
returns-in_err-take_row-clause-frame g c =
    let giving = c.rows.invariant.1 in
    let mid = c.next_entry.new.rows.conn.now in
    let same : mid ≡ c.conn-in_err-take_row-1.given.0 = search rules in
    let survived = survives_on g.S.Store g.met.S.Store.shut_if_dirty g.K.Columned.codec g.V.Columned.codec c.args.text.now (bound c.args.params.now) c.args.conn.now c.rows.rows.conn.now mid giving.survives c.next_entry.ensures.survives in
    let kept = subst (CommitsNone g.S.Store g.met.S.Store.shut_if_dirty g.K.Columned.codec g.V.Columned.codec c.args.text.now (bound c.args.params.now) c.args.conn.now) same (commits_none g.S.Store g.met.S.Store.shut_if_dirty g.K.Columned.codec g.V.Columned.codec c.args.text.now (bound c.args.params.now) c.args.conn.now mid survived) in
    record {
      stood = search rules;
      left =
          let giving = c.rows.invariant.1 in
          let mid = c.next_entry.new.rows.conn.now in
          let same : mid ≡ c.conn-in_err-take_row-1.given.0 = search rules in
          let read = rw c.in-Some.is at (c.in_ok-key.ensures.next c.args.conn.now c.args.text.now (bound c.args.params.now) giving.taken giving.read) in
          let entry : g.row.K.Denot × g.row.V.Denot = (c.in-Some.key, c.in-Some.value) in
          subst (Leaves g.S.Store g.met.S.Store.shut_if_dirty g.K.Columned.codec g.V.Columned.codec c.args.text.now (bound c.args.params.now) c.args.conn.now) same (same_by g.S.Store g.met.S.Store.shut_if_dirty g.K.Columned.codec g.V.Columned.codec c.args.text.now (bound c.args.params.now) c.args.conn.now mid (giving.taken ++ entry ∷ []) read);
      outside = search rules;
      stays = search rules;
      honest = search rules;
      faults = kept.0;
      crash = kept.1;
    }

-- ---- there are too many rows

pub returns-clause-gives : goal.returns-clause-gives
returns-clause-gives g c begun report has =
    let giving = c.rows.invariant.1 in
    let mid = c.rows.rows.conn.now in
    let same : mid ≡ c.conn-2-1.given.0 = search rules in (
      giving.taken,
      g.met.T.RowTaker.ends _ _ report giving.taken Store (giving.has begun report has),
      subst (λ last. AreSome g.S.Store g.met.S.Store.shut_if_dirty g.K.Columned.codec g.V.Columned.codec c.args.text.now (bound c.args.params.now) c.args.conn.now last giving.taken) same (some_by g.S.Store g.met.S.Store.shut_if_dirty g.K.Columned.codec g.V.Columned.codec c.args.text.now (bound c.args.params.now) c.args.conn.now mid mid giving.taken (λ clean. clean) giving.read),
    )

pub returns-clause-frame : goal.returns-clause-frame
returns-clause-frame g c =
    let giving = c.rows.invariant.1 in
    let mid = c.rows.rows.conn.now in
    let same : mid ≡ c.conn-2-1.given.0 = search rules in
    let kept = subst (CommitsNone g.S.Store g.met.S.Store.shut_if_dirty g.K.Columned.codec g.V.Columned.codec c.args.text.now (bound c.args.params.now) c.args.conn.now) same (commits_none g.S.Store g.met.S.Store.shut_if_dirty g.K.Columned.codec g.V.Columned.codec c.args.text.now (bound c.args.params.now) c.args.conn.now mid giving.survives) in
    record {
      stood =
          let giving = c.rows.invariant.1 in
          let mid = c.rows.rows.conn.now in
          let same : mid ≡ c.conn-2-1.given.0 = search rules in
          subst (λ last. Stood (state g.S.Store c.args.conn.now) (state g.S.Store last)) same giving.stood;
      left =
          let giving = c.rows.invariant.1 in
          let mid = c.rows.rows.conn.now in
          let same : mid ≡ c.conn-2-1.given.0 = search rules in
          subst (Leaves g.S.Store g.met.S.Store.shut_if_dirty g.K.Columned.codec g.V.Columned.codec c.args.text.now (bound c.args.params.now) c.args.conn.now) same (same_by g.S.Store g.met.S.Store.shut_if_dirty g.K.Columned.codec g.V.Columned.codec c.args.text.now (bound c.args.params.now) c.args.conn.now mid giving.taken giving.read);
      outside = search rules;
      stays = search rules;
      honest = search rules;
      faults = kept.0;
      crash = kept.1;
    }

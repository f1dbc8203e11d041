-- What becomes of the lines of a script, given what its parts do.
use Rattle.std.proofs.Common.{◌≡◌, ℕ, ◌+◌, ◌<◌, ◌≤◌, Bool, false, not, List, [], ◌∷◌, ◌++◌, length, map, take, refl, sym, ap, subst, ◌∙◌, Option, Some, None, Result, Ok, Err, inl, inr, arith}
use Rattle.std.specs.Result.{IsErrAnd}
use Rattle.std.specs.Prelude.{IfErr, IfOk, IsTrue, OnErr, OnOk, slice_index_or}
use Rattle.std.specs.Io.KnownBytes.{Appends}
use Rattle.std.proofs.lemmas.List.{append-nil, append_assoc, length-map, map-append, take-map, take_more}
use Rattle.hh_devices.specs.DeviceChanges.{DeviceChange, change}
use Rattle.hh_devices.specs.Devices.{AppendsFront}
use Rattle.jiff.specs.Words.{plain_zone}
use Rattle.hh_time.specs.Days.{Midnights}
use Rattle.hh_time.specs.Zone.{midnight_in}
use Rattle.hh_states.specs.States.{State}
use Rattle.hh_desk.specs.Promises.{Represents, RepresentsNow}
use Rattle.hh_desk.specs.Refusals.{CountsMore, RepresentsSome}
use Rattle.hh_desk.specs.Views.{OfficeView, midnight_of}
use Rattle.hh_host.specs.Views.{HostView}
use Rattle.hh_desk.specs.Headline.{Conserves, ReachedConserve}
use Rattle.hh_script.specs.declared.script_line.ScriptLine.{ScriptLine}
use Rattle.hh_script.specs.Steps.{LoadStep, RunStep, Step, step_of}
use Rattle.hh_desk.specs.declared.told.Told.{Told}
use Rattle.hh_desk.specs.declared.told.Told.TheVariants.{Replied, Unreadable}
use Rattle.hh_desk.specs.Doing.{IsRefusal, LeavesRefused, LoadDoes, RunDoes, no_memory}
use Rattle.hh_desk.proofs.GivingUpLaws.{more_at_first, more_later}
use Rattle.hh_session.specs.declared.run.LinesStop.{LinesStop}
use Rattle.hh_session.specs.declared.run.LinesStop.TheVariants.{Line, Output}
use Rattle.hh_session.specs.Course.{AllDone, AllDoneButLast, EarlyConserves, EndsEarly, FirstConserve, IsLineOf, LastNotDone, RunsScript, ScriptConserves, ScriptDoes, StepDoes, StopsScript, cut_last, cut_short}
use Rattle.hh_session.specs.steps.Course.{BeginsLine, RunsStep, StopsStep, TellsLine}
use Rattle.hh_session.specs.Lines.{told_done, told_line}
use Rattle.hh_session.proofs.GivingUpLaws.{script_then, step_then}

-- a load or a run that is given up for memory leaves the state as it is
pub load_gives_up : (host : HostView) (fails : Type 0) (midnight : Midnights) (load : LoadStep) (s : State)
    → LoadDoes host fails midnight s load no_memory s
load_gives_up host fails midnight load s = inr (inl refl, refl)

pub run_gives_up : (fails : Type 0) (midnight : Midnights) (run : RunStep) (s : State) → RunDoes fails midnight s run no_memory s
run_gives_up fails midnight run s = inr (inl refl, refl)

-- what is refused is not done
refused_undone : (told : Told) → IsRefusal told → told_done told ≡ false
refused_undone (Replied given) refusal = ap not refusal
refused_undone Unreadable refusal = absurd refusal

-- What a line does that is told by one line of text, given what came of it and what was written.
module _ (old new : OfficeView) (device : DeviceChange) (told : Told) (does : State → Told → State → Type 0) (up : (s : State) → does s no_memory s)
    (comes : (s : State) → Represents old s → (t : State) × does s told t × RepresentsNow old new t) (leaves : LeavesRefused old new told) where
  given_up : IsRefusal told → (s : State) → Represents old s → RepresentsNow old new s
  given_up refusal s stands =
      let same : new ≡ old = leaves refusal in
      (subst (λ o. Represents o s) (sym same) stands, ap (λ (o : OfficeView). o.zone) same)

  pub line_done : (done : Bool) → done ≡ told_done told → TellsLine device told → (s : State) → Represents old s
      → (text : List ℕ) × (t : State) × IsLineOf (λ given. does s given t) done text × Appends device.old device.new text × RepresentsNow old new t
  line_done done is (inl went) s stands = let (t, comes_to, now) = comes s stands in (told_line told, t, (told, comes_to, is, refl), went, now)
  line_done done is (inr (refusal, went)) s stands =
      (told_line no_memory, s, (no_memory, up s, is ∙ refused_undone told refusal, refl), went, given_up refusal s stands)

  pub line_cut : BeginsLine device told → (s : State) → Represents old s
      → (done : Bool) × (text : List ℕ) × (t : State) × IsLineOf (λ given. does s given t) done text × AppendsFront device.old device.new text × RepresentsNow old new t
  line_cut (inl went) s stands = let (t, comes_to, now) = comes s stands in (told_done told, told_line told, t, (told, comes_to, refl, refl), went, now)
  line_cut (inr (refusal, went)) s stands = (false, told_line no_memory, s, (no_memory, up s, refl, refl), went, given_up refusal s stands)

-- ---- lines one after the other

pub appends_more : (before between after : Option (List ℕ)) (text line : List ℕ) → Appends before between text → Appends between after line → Appends before after (text ++ line)
appends_more None between after text line first second = tt
appends_more (Some xs) None after text line first second = absurd first
appends_more (Some xs) (Some ys) None text line first second = absurd second
appends_more (Some xs) (Some ys) (Some zs) text line first second = second ∙ ap (λ bytes. bytes ++ line) first ∙ append_assoc xs text line

-- Whether steps may be done or not, before one more step and with it.
module _ (host : HostView) (fails : Type 0) (midnight : Midnights) (before after : List Step → Bool → Type 0) (step : Step)
    (keeps : (behind : List Step) (done : Bool) → before behind done → after (behind ++ step ∷ []) done) where
  does_more : (s t u : State) (steps : List Step) (text : List ℕ) (done : Bool) (line : List ℕ) → ScriptDoes host fails midnight before s steps text t
      → after [] done → StepDoes host fails midnight t step done line u → ScriptDoes host fails midnight after s (steps ++ step ∷ []) (text ++ line) u
  does_more s t u [] text done line (none, same) fits does = (
    done,
    line,
    u,
    [],
    fits,
    subst (λ v. StepDoes host fails midnight v step done line u) same does,
    (refl, refl),
    ap (λ bytes. bytes ++ line) none ∙ sym (append-nil line),
  )
  does_more s t u (first ∷ steps) text done line (done0, line0, v, rest, fits0, does0, others, is) fits does = (
    done0,
    line0,
    v,
    rest ++ line,
    keeps steps done0 fits0,
    does0,
    does_more v t u steps rest done line others fits does,
    ap (λ bytes. bytes ++ line) is ∙ append_assoc line0 rest line,
  )

-- a step that satisfies `AllDone` satisfies `AllDoneButLast` once one more step follows
but_last : (strict : Bool) (step : Step) (behind : List Step) (done : Bool) → AllDone strict behind done → AllDoneButLast strict (behind ++ step ∷ []) done
but_last strict step [] done fits = fits
but_last strict step (next ∷ behind) done fits = fits

-- in a strict script, a step that satisfies `AllDone` satisfies `LastNotDone` once one more step follows
last_not : (strict : Bool) → IsTrue strict → (step : Step) (behind : List Step) (done : Bool) → AllDone strict behind done → LastNotDone (behind ++ step ∷ []) done
last_not strict asked step [] done fits = fits asked
last_not strict asked step (next ∷ behind) done fits = fits asked

-- the last of some steps is cut short
cut_behind : (steps : List Step) (step : Step) → cut_last (steps ++ step ∷ []) ≡ steps ++ cut_short step ∷ []
cut_behind [] step = refl
cut_behind (first ∷ []) step = refl
cut_behind (first ∷ second ∷ steps) step = ap (λ more. first ∷ more) (cut_behind (second ∷ steps) step)

-- The office's store had counted `first` refusals at first and `mid` after the lines so far, and counts `last` in the end. The steps so far
-- were run, and all were done if they are strict.
module _ (host : HostView) (old now new : OfficeView) (first mid last : ℕ)
    {S : Type 0} (taken : S → Option (List ℕ)) (failures : S → ℕ) (before between after : S) (strict : Bool)
    (steps : List Step) (step : Step) (ran : RunsScript host (CountsMore first mid) old now (change taken failures before between) (AllDone strict) steps) where
  -- the office represents some state after the lines so far
  pub some_between : RepresentsSome old → RepresentsSome now
  some_between (s, stands) = let (text, t, does, went, (now_stands, zone)) = ran s stands in (t, now_stands)

  module _ (up : RepresentsSome old → first ≤ mid) (further : RepresentsSome now → mid ≤ last) where
    -- the count does not fall over the lines so far and one more
    pub up_more : RepresentsSome old → first ≤ last
    up_more some = omega (arith, up some, further (some_between some))

    module _ (may : List Step → Bool → Type 0) (next : Step) (keeps : (behind : List Step) (done : Bool) → AllDone strict behind done → may (behind ++ next ∷ []) done) where
      does_both : (s t u : State) (text : List ℕ) (done : Bool) (line : List ℕ) → Represents old s → Represents now t → now.zone ≡ old.zone
          → ScriptDoes host (CountsMore first mid) (midnight_of old) (AllDone strict) s steps text t
          → may [] done → StepDoes host (CountsMore mid last) (midnight_of now) t next done line u
          → ScriptDoes host (CountsMore first last) (midnight_of old) may s (steps ++ next ∷ []) (text ++ line) u
      does_both s t u text done line stands now_stands zone does fits does_now =
          does_more host (CountsMore first last) (midnight_of old) (AllDone strict) may next keeps s t u steps text done line
          (script_then (CountsMore first mid) (CountsMore first last) (more_at_first first mid last (up (s, stands)) (further (t, now_stands))) host (midnight_of old) (AllDone strict) s steps text t does)
          fits
          (step_then (CountsMore mid last) (CountsMore first last) (more_later first mid last (up (s, stands)) (further (t, now_stands))) host (midnight_of old) t next done line u
          (subst (λ z. StepDoes host (CountsMore mid last) (midnight_in (plain_zone z)) t next done line u) zone does_now))

    -- one more line of a script
    script_next : (may : List Step → Bool → Type 0) (keeps : (behind : List Step) (done : Bool) → AllDone strict behind done → may (behind ++ step ∷ []) done)
        (done : Bool) → may [] done → RunsStep host (CountsMore mid last) now new (change taken failures between after) step done
        → RunsScript host (CountsMore first last) old new (change taken failures before after) may (steps ++ step ∷ [])
    script_next may keeps done fits runs s stands =
        let (text, t, does, went, (now_stands, zone)) = ran s stands in
        let (line, u, does_now, line_went, (new_stands, new_zone)) = runs t now_stands in (
          text ++ line,
          u,
          does_both may step keeps s t u text done line stands now_stands zone does fits does_now,
          appends_more (taken before) (taken between) (taken after) text line went line_went,
          (new_stands, new_zone ∙ zone),
        )

    -- a line after which a script goes on
    pub script_more : (done : Bool) → (IsTrue strict → IsTrue done) → RunsStep host (CountsMore mid last) now new (change taken failures between after) step done
        → RunsScript host (CountsMore first last) old new (change taken failures before after) (AllDone strict) (steps ++ step ∷ [])
    script_more done fits = script_next (AllDone strict) (λ behind d fit. fit) done fits

    -- a line that is not done, at which a strict script stops
    pub script_undone : IsTrue strict → RunsStep host (CountsMore mid last) now new (change taken failures between after) step false
        → RunsScript host (CountsMore first last) old new (change taken failures before after) LastNotDone (steps ++ step ∷ [])
    script_undone asked = script_next LastNotDone (last_not strict asked step) false refl

    -- a line that stops a script
    pub script_stops : (all : List Step) (count : ℕ) → take count all ≡ steps ++ step ∷ [] → StopsStep host (CountsMore mid last) now new (change taken failures between after) step
        → StopsScript host (CountsMore first last) old new (change taken failures before after) strict all
    script_stops all count is stops s stands =
        let (text, t, does, went, (now_stands, zone)) = ran s stands in
        let (done, line, u, does_now, (front, rest, cut, line_went), (new_stands, new_zone)) = stops t now_stands in (
          count,
          text ++ line,
          u,
          subst (λ xs. ScriptDoes host (CountsMore first last) (midnight_of old) (AllDoneButLast strict) s xs (text ++ line) u) (sym (ap cut_last is ∙ cut_behind steps step))
              (does_both (AllDoneButLast strict) (cut_short step) (but_last strict (cut_short step)) s t u text done line stands now_stands zone does tt does_now),
          (
            text ++ front,
            rest,
            ap (λ bytes. text ++ bytes) cut ∙ sym (append_assoc text front rest),
            appends_more (taken before) (taken between) (taken after) text front went line_went,
          ),
          (new_stands, new_zone ∙ zone),
        )

-- The office was read after some lines. Its store had counted `first` refusals at first and `last` after the lines, and counts `later` now.
module _ (host : HostView) (old new heard : OfficeView) (same : heard ≡ new) (first last later : ℕ) (device : DeviceChange) (may : List Step → Bool → Type 0) (steps : List Step)
    (up : RepresentsSome old → first ≤ last) (further : RepresentsSome new → last ≤ later) where
  -- it is as it was after the lines
  heard_script : RunsScript host (CountsMore first last) old new device may steps → RunsScript host (CountsMore first later) old heard device may steps
  heard_script runs s stands =
      let (text, t, does, went, now) = runs s stands in (
        text,
        t,
        script_then (CountsMore first last) (CountsMore first later) (more_at_first first last later (up (s, stands)) (further (t, now.0))) host (midnight_of old) may s steps text t does,
        went,
        subst (λ o. RepresentsNow old o t) (sym same) now,
      )

-- The tables of a state that an office represents add up.
module _ (conserve : ReachedConserve) (host : HostView) (fails : Type 0) (old new : OfficeView) (device : DeviceChange) where
  sums_now : (t : State) → RepresentsNow old new t → Conserves (midnight_of old) t new.content
  sums_now t ((reached, is), zone) =
      subst (λ z. Conserves (midnight_in (plain_zone z)) t new.content) zone
      (subst (λ content. Conserves (midnight_of new) t content) (sym is) (conserve (midnight_of new) t reached))

  pub script_conserves : (may : List Step → Bool → Type 0) (steps : List Step) → RunsScript host fails old new device may steps → ScriptConserves host fails old new may steps
  script_conserves may steps runs s stands = let (text, t, does, went, now) = runs s stands in (text, t, does, sums_now t now)

  first_conserve : (strict : Bool) (steps : List Step) → StopsScript host fails old new device strict steps → FirstConserve host fails old new strict steps
  first_conserve strict steps stops s stands = let (count, text, t, does, cut, now) = stops s stands in (count, text, t, does, sums_now t now)

  -- the steps were not run to their end, and the tables add up in the state after the steps that were run
  pub early_conserves : (strict : Bool) (steps : List Step) (why : LinesStop) → EndsEarly host fails old new device strict steps why → EarlyConserves host fails old new strict steps why
  early_conserves strict steps Output stops = first_conserve strict steps stops
  early_conserves strict steps (Line number) (may, runs) = script_conserves LastNotDone (take number steps) runs

-- ---- results

pub OnOk-map : {T E : Type 0} (r : Result T E) (P Q : Type 0) → (P → Q) → OnOk r P → OnOk r Q
OnOk-map (Ok x) P Q f p = f p
OnOk-map (Err e) P Q f p = tt

pub OnErr-map : {T E : Type 0} (r : Result T E) (P Q : Type 0) → (P → Q) → OnErr r P → OnErr r Q
OnErr-map (Ok x) P Q f p = tt
OnErr-map (Err e) P Q f p = f p

pub IfOk-map : {T E : Type 0} (r : Result T E) (P Q : T → Type 0) → ((x : T) → P x → Q x) → IfOk r P → IfOk r Q
IfOk-map (Ok x) P Q f p = f x p
IfOk-map (Err e) P Q f p = tt

-- what is known of a result, and what is known of its value
pub ok_both : {T E : Type 0} (r : Result T E) (P : Type 0) (Q R : T → Type 0) → ((x : T) → P → Q x → R x) → OnOk r P → IfOk r Q → IfOk r R
ok_both (Ok x) P Q R f p q = f x p q
ok_both (Err e) P Q R f p q = tt

-- the steps of the lines so far and of the next line
pub one_more_step : (lines : List ScriptLine) (i : ℕ) (line : ScriptLine) → i < length lines
    → map step_of (take (i + 1) lines) ≡ map step_of (take i lines) ++ step_of (slice_index_or lines i line) ∷ []
one_more_step lines i line inside = ap (map step_of) (take_more lines i line inside) ∙ map-append step_of (take i lines) (slice_index_or lines i line ∷ [])

-- the same for a line that is known to be there
pub next_step : (lines : List ScriptLine) (i : ℕ) (line : ScriptLine) → i < length lines → line ≡ slice_index_or lines i line
    → map step_of (take (i + 1) lines) ≡ map step_of (take i lines) ++ step_of line ∷ []
next_step lines i line inside is = subst (λ l. map step_of (take (i + 1) lines) ≡ map step_of (take i lines) ++ step_of l ∷ []) (sym is) (one_more_step lines i line inside)

-- the first steps of a script are those of its first lines
pub first_steps : (lines : List ScriptLine) (n : ℕ) → take n (map step_of lines) ≡ map step_of (take n lines)
first_steps lines n = take-map step_of n lines

-- The lines so far were run, then one more, and then the office was read. Its store had counted `first` refusals at first, `mid` after the
-- lines so far and `last` after the next line, and counts `later` now.
module _ (host : HostView) (old now new heard : OfficeView) (first mid last later : ℕ)
    {S : Type 0} (taken : S → Option (List ℕ)) (failures : S → ℕ) (before between after : S) (strict : Bool)
    (lines : List ScriptLine) (i : ℕ) (line : ScriptLine) (inside : i < length lines) (is : line ≡ slice_index_or lines i line)
    (ran : RunsScript host (CountsMore first mid) old now (change taken failures before between) (AllDone strict) (map step_of (take i lines)))
    (up : RepresentsSome old → first ≤ mid) (further : RepresentsSome now → mid ≤ last) (done : Bool)
    (runs : RunsStep host (CountsMore mid last) now new (change taken failures between after) (step_of line) done)
    (same : heard ≡ new) (more : RepresentsSome new → last ≤ later) where
  ran_up : RepresentsSome old → first ≤ last
  ran_up = up_more host old now new first mid last taken failures before between after strict (map step_of (take i lines)) (step_of line) ran up further

  -- the count does not fall
  pub line_heard_up : RepresentsSome old → first ≤ later
  line_heard_up some =
      let (t, stands) = some_between host old now new first mid last taken failures before between after strict (map step_of (take i lines)) (step_of line) ran some in
      let (text, u, does, went, (new_stands, zone)) = runs t stands in
      omega (arith, ran_up some, more (u, new_stands))

  -- the lines up to this one, after the office was read
  heard_of : (may : List Step → Bool → Type 0)
      → RunsScript host (CountsMore first last) old new (change taken failures before after) may (map step_of (take i lines) ++ step_of line ∷ [])
      → RunsScript host (CountsMore first later) old heard (change taken failures before after) may (map step_of (take (i + 1) lines))
  heard_of may ran_more =
      subst (RunsScript host (CountsMore first later) old heard (change taken failures before after) may) (sym (next_step lines i line inside is))
      (heard_script host old new heard same first last later (change taken failures before after) may (map step_of (take i lines) ++ step_of line ∷ []) ran_up more ran_more)

  -- the line is done, or the lines are not strict
  pub line_heard : (IsTrue strict → IsTrue done) → RunsScript host (CountsMore first later) old heard (change taken failures before after) (AllDone strict) (map step_of (take (i + 1) lines))
  line_heard fits =
      heard_of (AllDone strict)
      (script_more host old now new first mid last taken failures before between after strict (map step_of (take i lines)) (step_of line) ran up further done fits runs)

  -- the line is not done, and strict lines stop at it
  pub line_stops : IsTrue strict → done ≡ false
      → EndsEarly host (CountsMore first later) old heard (change taken failures before after) strict (map step_of lines) (Line (i + 1))
  line_stops asked undone =
      let many : length (map step_of lines) ≡ length lines = length-map lines step_of in
      let runs_undone : RunsStep host (CountsMore mid last) now new (change taken failures between after) (step_of line) false =
      subst (RunsStep host (CountsMore mid last) now new (change taken failures between after) (step_of line)) undone runs in (
        (asked, omega arith, omega (arith, inside, many)),
        subst (RunsScript host (CountsMore first later) old heard (change taken failures before after) LastNotDone) (sym (first_steps lines (i + 1)))
            (heard_of LastNotDone
            (script_undone host old now new first mid last taken failures before between after strict (map step_of (take i lines)) (step_of line) ran up further asked runs_undone)),
      )

-- a fault that is passed on
pub passed_failure : {T E : Type 0} (P : Type 0) (result : Result T E) → P → OnErr result P
passed_failure P (Ok x) p = tt
passed_failure P (Err e) p = p

-- lines that were not run to their end, as a result says
pub ended_early : {E : Type 0} (P Q : E → Type 0) (result : Result (Unit {0}) E) → ((why : E) → result ≡ Err why → P why → Q why) → IfErr result P → IfErr result Q
ended_early P Q (Ok x) f p = tt
ended_early P Q (Err why) f p = f why refl p

-- the same of a result whose reason is known
pub ended_by : {E : Type 0} (P : E → Type 0) (result : Result (Unit {0}) E) (why : E) → IsErrAnd result (λ s. s ≡ why) → P why → IfErr result P
ended_by P (Ok x) why is p = tt
ended_by P (Err s) why is p = subst P (sym is) p

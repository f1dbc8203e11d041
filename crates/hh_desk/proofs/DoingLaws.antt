-- What a load or a run does if the office answered it.
use Rattle.std.proofs.Common.{◌≡◌, ℕ, ◌<◌, List, length, take, refl, sym, ap, ◌∙◌, Bool, true, false, cond, Some, inl, inr, arith, ltb}
use Rattle.std.specs.Prelude.{MatchBool}
use Rattle.std.specs.FinMap.{find}
use Rattle.std.proofs.lemmas.Bool.{lt-ltb, ltb-false, ltb-true}
use Rattle.std.proofs.lemmas.List.{length-take-le, take_all}
use Rattle.hh_time.specs.Days.{Midnights}
use Rattle.hh_names.specs.declared.fault.Refusal.TheVariants.{FileTooLarge, Forbidden}
use Rattle.hh_requests.specs.declared.request.Request.{Request}
use Rattle.hh_requests.specs.declared.request.Upload.{Upload}
use Rattle.hh_requests.specs.declared.reply.Reply.{Reply}
use Rattle.hh_rows.specs.RowKinds.{most_bytes}
use Rattle.hh_states.specs.Content.{tables_of}
use Rattle.hh_states.specs.States.{State, file_key_cmp}
use Rattle.hh_http_serve.specs.Machine.{key_of, load_beside, may, step}
use Rattle.hh_http_serve.specs.Transitions.{Transition, refused_for}
use Rattle.hh_http_serve.specs.Promises.{HandleStep, Represents, RepresentsAfter, RepresentsNow, is_given_up}
use Rattle.hh_http_serve.specs.Refusals.{CountsMore, CountsReply, RepresentsSome}
use Rattle.hh_http_serve.specs.Views.{OfficeView, midnight_of}
use Rattle.hh_host.specs.Views.{HostView}
use Rattle.hh_script.specs.Steps.{LoadStep, RunStep}
use Rattle.hh_desk.specs.declared.told.Told.TheVariants.{Replied}
use Rattle.hh_desk.specs.Doing.{LoadDoes, OrdersRun, RunDoes, RunsLoad, request_for, request_of}
use Rattle.hh_desk.proofs.GivingUpLaws.{reply_where}

-- A load asks the same of the machine if only the beginning of its file is read, as long as a file that is too large is noticed.
module _ (midnight : Midnights) (s : State) (l : LoadStep) (all : List ℕ) where
  -- the transition if `body` was read of the file
  abbrev asks : List ℕ → Transition
  asks body = step midnight s l.moment (request_of l body)

  -- a file that is too large is refused as such, whatever it contains
  abbrev refused_large : Transition
  refused_large = cond (may midnight s l.key (request_of l all).action) (refused_for s FileTooLarge) (refused_for s Forbidden)

  too_large : (body : List ℕ) → ltb most_bytes (length body) ≡ true → asks body ≡ refused_large
  too_large body large =
      ap (λ b. cond (may midnight s l.key (request_of l all).action) (cond b (refused_for s FileTooLarge) (within body)) (refused_for s Forbidden)) large
    where
      upload : List ℕ → Upload
      upload body = record { kind = l.kind; name = l.name; body = body }

      within : List ℕ → Transition
      within body = load_beside midnight s (find file_key_cmp (key_of (upload body)) s.files) l.moment (upload body)

  pub by_front : (most : ℕ) → most_bytes < most → asks (take most all) ≡ asks all
  by_front most enough = go (ltb most (length all)) refl
    where
      go : (b : Bool) → ltb most (length all) ≡ b → asks (take most all) ≡ asks all
      go false is = ap asks (take_all most all (ltb-false most (length all) is))
      go true is =
          let larger : most < length all = ltb-true most (length all) is in
          too_large (take most all) (ap (ltb most_bytes) (length-take-le most all (omega arith)) ∙ lt-ltb most_bytes most enough)
          ∙ sym (too_large all (lt-ltb most_bytes (length all) (omega (arith, enough))))

-- What a load does if the office answered it.
module _ (host : HostView) (old new : OfficeView) (counted counts : ℕ) (l : LoadStep) (all : List ℕ) (most : ℕ)
    (enough : most_bytes < most) (read : host.reads l.path (Some all)) (request : Request) (is : request ≡ request_of l (take most all)) (given : Reply)
    (counting : RepresentsSome old → CountsReply given counted counts) where
  answered_by : (s t : State) (reply : Reply) (b : Bool) → Represents old s → is_given_up given ≡ b
      → (record { reply = reply; state = t }) ≡ step (midnight_of old) s l.moment (request_of l all)
      → MatchBool b (new ≡ old) ((given ≡ reply) × (new ≡ record old { content = tables_of (midnight_of old) t })) → Represents new (cond b s t)
      → (u : State) × LoadDoes host (CountsMore counted counts) (midnight_of old) s l (Replied given) u × RepresentsNow old new u
  answered_by s t reply true before up transition same stands = (s, inr (reply_where counted counts given up (counting (s, before)), refl), (stands, ap (λ (o : OfficeView). o.zone) same))
  answered_by s t reply false before up transition comes stands = (
    t,
    inl (all, read, (ap Replied (comes.0 ∙ ap (λ (o : Transition). o.reply) transition), ap (λ (o : Transition). o.state) transition)),
    (stands, ap (λ (o : OfficeView). o.zone) comes.1),
  )

  pub load_answered : HandleStep old new l.moment request given → RepresentsAfter old new l.moment request given → RunsLoad (CountsMore counted counts) old new host l (Replied given)
  load_answered steps after s stands =
      let transition : Transition = step (midnight_of old) s l.moment request in
      answered_by s transition.state transition.reply (is_given_up given) stands refl
      (ap (step (midnight_of old) s l.moment) is ∙ by_front (midnight_of old) s l all most enough) (steps s stands) (after s stands)

-- What a run does if the office answered it.
module _ (old new : OfficeView) (counted counts : ℕ) (run : RunStep) (request : Request) (is : request ≡ request_for run) (given : Reply)
    (counting : RepresentsSome old → CountsReply given counted counts) where
  made_by : (s t : State) (reply : Reply) (b : Bool) → Represents old s → is_given_up given ≡ b
      → (record { reply = reply; state = t }) ≡ step (midnight_of old) s run.moment (request_for run)
      → MatchBool b (new ≡ old) ((given ≡ reply) × (new ≡ record old { content = tables_of (midnight_of old) t })) → Represents new (cond b s t)
      → (u : State) × RunDoes (CountsMore counted counts) (midnight_of old) s run (Replied given) u × RepresentsNow old new u
  made_by s t reply true before up transition same stands = (s, inr (reply_where counted counts given up (counting (s, before)), refl), (stands, ap (λ (o : OfficeView). o.zone) same))
  made_by s t reply false before up transition comes stands = (
    t,
    inl (comes.0 ∙ ap (λ (o : Transition). o.reply) transition, ap (λ (o : Transition). o.state) transition),
    (stands, ap (λ (o : OfficeView). o.zone) comes.1),
  )

  pub run_answered : HandleStep old new run.moment request given → RepresentsAfter old new run.moment request given → OrdersRun (CountsMore counted counts) old new run (Replied given)
  run_answered steps after s stands =
      let transition : Transition = step (midnight_of old) s run.moment request in
      made_by s transition.state transition.reply (is_given_up given) stands refl
      (ap (step (midnight_of old) s run.moment) is) (steps s stands) (after s stands)

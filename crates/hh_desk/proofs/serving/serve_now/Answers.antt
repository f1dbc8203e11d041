use Rattle.std.proofs.Common.{[], ◌∷◌, None, Some, refl, rules, subst, w64, SFits}
use Rattle.std.proofs.lemmas.Int.{to_z-of_z}
use Rattle.hh_sockets.specs.Arrivals.{exchange}
use Rattle.hh_http_serve.specs.Refusals.{CountsMore}
use Rattle.hh_desk.specs.Serving.{ServesAll}
use Rattle.hh_desk.proofs.ServingLaws.{one_served}
use Rattle.hh_desk.proofs.serving.serve_now.Goals as goal

pub returns-in_default-clause-serves : goal.returns-in_default-clause-serves
returns-in_default-clause-serves g c sure = record {
  reading = None;
  told = c.in_default.ensures;
  served = λ s stands. (s, (((refl, refl), (refl, refl)), refl), (stands, refl));
}

pub returns-clause-serves : goal.returns-clause-serves
returns-clause-serves g c sure =
    let counted = g.T.Tables.refusals c.args.office.now.tables in
    let counts = g.T.Tables.refusals c.serve_one.new.office.tables in
    let old = c.args.office.now.seen in
    let new = c.serve_one.new.office.seen in
    let e = exchange g.S.Source.remaining g.S.Source.failures g.K.Sink.taken g.K.Sink.failures
    c.args.connection.now (record { source = c.serve_one.new.source; sink = c.serve_one.new.sink }) in
    let fits : SFits w64 c.in-Ok.moment = search rules in
    record {
      reading = Some c.in-Ok.moment;
      told = c.in-Ok.ensures;
      served = subst (λ moment. ServesAll (CountsMore counted counts) old new (Some e ∷ []) (Some moment ∷ [])) (to_z-of_z w64 c.in-Ok.moment fits)
          (one_served old new counted counts _ e c.serve_one.result
          (c.serve_one.ensures.served sure) (c.serve_one.ensures.represents sure) c.serve_one.ensures.read c.serve_one.ensures.written);
    }

use Rattle.std.proofs.Common.{[], ◌∷◌, refl, subst, sym, None, Some}
use Rattle.std.proofs.lemmas.List.{append-nil}
use Rattle.hh_sockets.specs.Arrivals.{exchange}
use Rattle.hh_desk.proofs.serving.serve_next.Goals as goal

pub returns-in_default-clause-serves : goal.returns-in_default-clause-serves
returns-in_default-clause-serves g c sure = record {
  arrival = None;
  readings = [];
  came = c.in_default.ensures;
  told = λ first earlier leads. subst (λ readings. g.C.Clock.leads first readings c.args.clock.now) (sym (append-nil earlier)) leads;
  served = λ s stands. (s, refl, (stands, refl));
}

pub returns-clause-serves : goal.returns-clause-serves
returns-clause-serves g c sure =
    let given = c.in-Ok.connection in
    let served = c.serve_now-received.ensures.serves sure in
    record {
      arrival = Some (exchange g.L.Source.Source.remaining g.L.Source.Source.failures g.L.Sink.Sink.taken g.L.Sink.Sink.failures given c.serve_now-received.new.connection);
      readings = served.reading ∷ [];
      came = λ first earlier leads. c.close.ensures first earlier given (c.in-Ok.ensures first earlier leads);
      told = served.told;
      served = served.served;
    }

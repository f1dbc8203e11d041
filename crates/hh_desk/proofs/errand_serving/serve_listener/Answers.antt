use Rattle.std.proofs.Common.{refl, rules, subst, sym, w64, SFits}
use Rattle.std.proofs.lemmas.Int.{to_z-of_z}
use Rattle.hh_host.specs.Clocks.{AllTell}
use Rattle.hh_desk.specs.Errands.{TellAt}
use Rattle.hh_desk.proofs.errand_serving.serve_listener.Goals as goal

pub returns-in-Some-clause-serves : goal.returns-in-Some-clause-serves
returns-in-Some-clause-serves g c sure =
    let each = c.serve_each.ensures.serves sure in
    let fits : SFits w64 c.in-Some.moment = search rules in
    let tells = each.told _ (tt, refl) in
    record {
      arrivals = each.arrivals;
      readings = each.readings;
      awaited = each.awaited;
      came = each.came;
      told = subst (λ at. TellAt at each.readings) (sym c.in-Some.is) (subst (λ moment. AllTell moment each.readings) (to_z-of_z w64 c.in-Some.moment fits) tells.0);
      served = each.served;
    }

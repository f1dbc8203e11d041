-- What serving connections one after the other leads to.
use Rattle.std.proofs.Common.{ℤ, List, [], ◌∷◌, ◌++◌, Some, None, subst}
use Rattle.hh_time.specs.Days.{Midnights}
use Rattle.hh_states.specs.States.{State}
use Rattle.hh_sockets.specs.Arrivals.{Arrival, Exchange}
use Rattle.hh_host.specs.Clocks.{ClockReading}
use Rattle.hh_desk.specs.Serving.{AreServed, IsServedOnce}

-- connections that come after others
module _ (fails : Type 0) (midnight : Midnights) (more : List Arrival) (further : List ClockReading) where
  pub served_more : (arrivals : List Arrival) (readings : List ClockReading) (s t u : State) → AreServed fails midnight arrivals readings s t
      → AreServed fails midnight more further t u → AreServed fails midnight (arrivals ++ more) (readings ++ further) s u
  served_more [] [] s t u same others = subst (λ v. AreServed fails midnight more further v u) same others
  served_more [] (r ∷ readings) s t u none others = absurd none
  served_more (None ∷ arrivals) readings s t u served others = served_more arrivals readings s t u served others
  served_more (Some e ∷ arrivals) [] s t u none others = absurd none
  served_more (Some e ∷ arrivals) (None ∷ readings) s t u (untouched, served) others = (untouched, served_more arrivals readings s t u served others)
  served_more (Some e ∷ arrivals) (Some moment ∷ readings) s t u (between, once, served) others =
      (between, once, served_more arrivals readings between t u served others)

-- what holds if the store may have failed where `fails` holds, holds if it may have failed where `others` holds
module _ (fails others : Type 0) (implies : fails → others) (midnight : Midnights) where
  once_then : (moment : ℤ) (e : Exchange) (s t : State) → IsServedOnce fails midnight moment e s t → IsServedOnce others midnight moment e s t
  once_then moment e s t h = record {
    old = h.old;
    new = h.new;
    counted = h.counted;
    counts = h.counts;
    served = h.served;
    zone = h.zone;
    represented = h.represented;
    represents = h.represents;
    leads = h.leads;
    serves = h.serves;
    read = h.read;
    written = h.written;
    refused = λ more. implies (h.refused more);
  }

  pub served_then : (arrivals : List Arrival) (readings : List ClockReading) (s t : State) → AreServed fails midnight arrivals readings s t
      → AreServed others midnight arrivals readings s t
  served_then [] [] s t same = same
  served_then [] (r ∷ readings) s t none = absurd none
  served_then (None ∷ arrivals) readings s t served = served_then arrivals readings s t served
  served_then (Some e ∷ arrivals) [] s t none = absurd none
  served_then (Some e ∷ arrivals) (None ∷ readings) s t (untouched, served) = (untouched, served_then arrivals readings s t served)
  served_then (Some e ∷ arrivals) (Some moment ∷ readings) s t (between, once, served) =
      (between, once_then moment e s between once, served_then arrivals readings between t served)

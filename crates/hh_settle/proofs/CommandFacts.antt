-- How words end, given how the line that they form ends
use Rattle.std.proofs.Common.{◌≡◌, Bool, List, Some, inr}
use Rattle.clap.specs.Words.{Text}
use Rattle.hh_devices.specs.DeviceChanges.{DeviceChange}
use Rattle.hh_host.specs.Views.{HostView}
use Rattle.hh_kept_office.specs.Places.{Places}
use Rattle.hh_words.specs.Lines.{Line, line_value}
use Rattle.hh_settle.specs.Stops.{AreWrong, Stops, TellsBadLine, UnlessExplained}
use Rattle.hh_settle.specs.steps.Stops.{IsToldBadLine, IsToldOne, StopsAnd}
use Rattle.hh_settle.proofs.StopFacts.{wrong_by_bad_line}

module _ (host : HostView) (places : Places) (strict explain : Bool) (words : List Text) (l : Line) (is : line_value words ≡ Some l) (out err : DeviceChange) where
  pub stops_so : StopsAnd host places strict l out (IsToldOne explain err) → Stops host places strict explain words out err
  stops_so (s, stops, (one, told)) = (s, one, inr (l, is, stops), told)

  pub wrong_so : StopsAnd host places strict l out (IsToldBadLine explain err) → AreWrong host explain words err
  wrong_so (s, stops, off) = inr (wrong_by_bad_line host places strict words out (λ line word. UnlessExplained explain (TellsBadLine err line word)) l is s stops off)

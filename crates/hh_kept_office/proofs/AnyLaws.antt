-- What holds for some known paths also holds if nothing is known about paths.
use Rattle.std.proofs.Common.{Bool, List, inl, inr, Result}
use Rattle.std.specs.Prelude.{⊤}
use Rattle.hh_devices.specs.DeviceChanges.{DeviceChange}
use Rattle.hh_rows.specs.declared.settings.Settings.{Settings}
use Rattle.hh_host.specs.Views.{HostView}
use Rattle.hh_session.specs.Errands.{ErrandStep}
use Rattle.hh_kept_office.specs.declared.path.PathStop.{PathStop}
use Rattle.hh_kept_office.specs.declared.scripts.ScriptPathStop.{ScriptPathStop}
use Rattle.hh_kept_office.specs.Paths.{EndsAt, MakesAt, MigratesAt}
use Rattle.hh_kept_office.specs.Places.{Places, any_places}
use Rattle.hh_kept_office.specs.Scripts.{EndsScript}
use Rattle.hh_kept_office.proofs.PathLaws.{put_then}

module _ (places : Places) (path : List _) (device : DeviceChange) where
  pub makes_any : (settings : Settings) (result : Result Unit PathStop) → MakesAt places path device settings result → MakesAt any_places path device settings result
  makes_any settings result (inl (fault, refused, is, same)) = inl (fault, tt, is, same)
  makes_any settings result (inr (inl (is, found, same))) = inr (inl (is, tt, same))
  makes_any settings result (inr (inr (absent, (found, left, ended, opens, put, is, more)))) =
      inr (inr (tt, (found, left, ended, tt, put_then (places.closes path left) (places.discards path left) ⊤ ⊤ (λ known. tt) (λ known. tt) ended put, is, more)))

  pub migrates_any : (result : Result Unit PathStop) → MigratesAt places path device result → MigratesAt any_places path device result
  migrates_any result (inl (fault, refused, is, same)) = inl (fault, tt, is, same)
  migrates_any result (inr (inl (is, found, same))) = inr (inl (is, tt, same))
  migrates_any result (inr (inr (present, (found, left, ended, opens, closes, is, more)))) = inr (inr (tt, (found, left, ended, tt, tt, is, more)))

  pub ends_any : (host : HostView) (step : ErrandStep) (result : Result Unit PathStop) → EndsAt places path device host step result
      → EndsAt any_places path device host step result
  ends_any host step result (inl (fault, refused, is, same)) = inl (fault, tt, is, same)
  ends_any host step result (inr (inl (is, found, same))) = inr (inl (is, tt, same))
  ends_any host step result (inr (inr (present, (found, left, ended, opens, closes, is, more)))) = inr (inr (tt, (found, left, ended, tt, tt, is, more)))

  pub script_any : (host : HostView) (file : List _) (strict : Bool) (result : Result Unit ScriptPathStop) → EndsScript host device file strict places path result
      → EndsScript host device file strict any_places path result
  script_any host file strict result (inl (fault, refused, is, same)) = inl (fault, tt, is, same)
  script_any host file strict result (inr (inl (is, found, same))) = inr (inl (is, tt, same))
  script_any host file strict result (inr (inr (present, (found, left, ended, opens, closes, is, more)))) = inr (inr (tt, (found, left, ended, tt, tt, is, more)))

-- How a command ends at a path, given how it ends over the database there.
use Rattle.std.proofs.Common.{◌≡◌, ◌≢◌, ◌∙◌, ℕ, List, Option, refl, ap, Result, Ok, Err}
use Rattle.std.specs.Prelude.{IfErr, IsErrAnd, IsErrOf, IsTrue, OnOk}
use Rattle.std.specs.Io.KnownBytes.{Appends}
use Rattle.sqlite.specs.State.{HasCleanDisk, State}
use Rattle.hh_devices.specs.DeviceChanges.{DeviceChange}
use Rattle.hh_devices.specs.Devices.{AppendsFront}
use Rattle.hh_rows.specs.declared.settings.Settings.{Settings}
use Rattle.hh_session.specs.errand.ErrandStop.{ErrandStop}
use Rattle.hh_session.specs.errand.ErrandStop.TheVariants as stop
use Rattle.hh_sqlmigration.specs.Versions.{IsMigrated}
use Rattle.hh_sqlstore.specs.Holds.{IsNewOffice}
use Rattle.hh_kept_office.specs.Kept.{IsRefusedByStore, ready_line, version_line}
use Rattle.hh_kept_office.specs.Paths.{IsPutAway, MakesKept, MigratesKept}
use Rattle.hh_kept_office.specs.Places.{Connected, LeavesConnected, MigratesConnected, Places, connected}

-- the result is the error that is known
pub err_is : {A E : Type 0} (result : Result A E) (e : E) → IsErrAnd result (λ x. x ≡ e) → result ≡ Err e
err_is (Ok x) e none = absurd none
err_is (Err x) e is = ap Err is

-- if something holds for every error but one, it holds for every translated error but the translation of that one
pub turned : {A E F : Type 0} (P : Type 0) (into : E → F) (one : E) (result : Result A F) (e : E) → IsErrAnd result (λ x. x ≡ into e) → (e ≢ one → P)
    → IfErr result (λ x. x ≢ into one → P)
turned P into one (Ok x) e none holds = tt
turned P into one (Err x) e is holds = λ other. holds (λ same. other (is ∙ ap into same))

-- if an output is unchanged unless it failed, so is what it took
pub same_taken : {S A : Type 0} (taken : S → Option (List ℕ)) (old new : S) (ended : Result A ErrandStop) → IfErr ended (λ why. why ≢ stop.Output → new ≡ old)
    → IfErr ended (λ why. why ≢ stop.Output → taken new ≡ taken old)
same_taken taken old new (Ok x) same = tt
same_taken taken old new (Err why) same = λ other. ap taken (same other)

refused_else : (fault : _) → stop.Refused fault ≢ stop.Output
refused_else fault same = cc same

unreadable_else : stop.Unreadable ≢ stop.Output
unreadable_else same = cc same

no_socket_else : stop.NoSocket ≢ stop.Output
no_socket_else same = cc same

-- a database that was put away still is, if less is asked about closing and about removing
pub put_then : (closed discarded closed' discarded' : Type 0) → (closed → closed') → (discarded → discarded') → (ended : Result Unit ErrandStop)
    → IsPutAway closed discarded ended → IsPutAway closed' discarded' ended
put_then closed discarded closed' discarded' close discard (Ok x) put = close put
put_then closed discarded closed' discarded' close discard (Err stop.Output) put = close put
put_then closed discarded closed' discarded' close discard (Err (stop.Refused fault)) put = discard put
put_then closed discarded closed' discarded' close discard (Err stop.Unreadable) put = discard put
put_then closed discarded closed' discarded' close discard (Err stop.NoSocket) put = discard put

-- an office was made in a database, or it was not
pub made : (places : Places) (path : _) (device : DeviceChange) (settings : Settings) (found left : Connected) (ended : Result Unit ErrandStop)
    → OnOk ended (IsTrue left.is_open → IsNewOffice settings left.committed) → OnOk ended (Appends device.old device.new ready_line)
    → (IsErrOf ended stop.Output → IsTrue left.is_open → IsNewOffice settings left.committed)
    → (IsErrOf ended stop.Output → AppendsFront device.old device.new ready_line)
    → IfErr ended (λ why. why ≢ stop.Output → LeavesConnected found left) → IfErr ended (λ why. why ≢ stop.Output → device.new ≡ device.old)
    → MakesKept places path device settings found left ended
made places path device settings found left (Ok x) is_made told untold cut undone same = (is_made, told)
made places path device settings found left (Err stop.Output) is_made told untold cut undone same = (untold refl, cut refl)
made places path device settings found left (Err (stop.Refused fault)) is_made told untold cut undone same = (undone (refused_else fault), same (refused_else fault))
made places path device settings found left (Err stop.Unreadable) is_made told untold cut undone same = (undone unreadable_else, same unreadable_else)
made places path device settings found left (Err stop.NoSocket) is_made told untold cut undone same = (undone no_socket_else, same no_socket_else)

-- what a connection shows of its office that was taken to the present version
shows_migrated : (old new : State) → IsMigrated old new → MigratesConnected (connected old) (connected new)
shows_migrated old new is up = (
  is.was_open,
  is.settled,
  record { is_office = is.is_office; kept = is.kept; settings = is.settings; from_one = is.from_one; from_present = is.from_two; mark = is.mark; beside = is.beside },
)

-- an office in a database was taken to the present version, or it was refused
pub migrated : (places : Places) (path : _) (device : DeviceChange) (old new : State) → (IsTrue new.is_open → HasCleanDisk new) → (ended : Result Unit ErrandStop)
    → (HasCleanDisk new → OnOk ended (IsMigrated old new)) → OnOk ended (Appends device.old device.new version_line)
    → (IsErrOf ended stop.Output → HasCleanDisk new → IsMigrated old new)
    → (IsErrOf ended stop.Output → AppendsFront device.old device.new version_line)
    → IfErr ended (λ why. why ≢ stop.Output → IsRefusedByStore why)
    → IfErr ended (λ why. why ≢ stop.Output → LeavesConnected (connected old) (connected new)) → IfErr ended (λ why. why ≢ stop.Output → device.new ≡ device.old)
    → MigratesKept places path device (connected old) (connected new) ended
migrated places path device old new clean (Ok x) is_migrated told untold cut refused undone same =
    ((λ up. shows_migrated old new (is_migrated (clean up)) up), told)
migrated places path device old new clean (Err stop.Output) is_migrated told untold cut refused undone same =
    ((λ up. shows_migrated old new (untold refl (clean up)) up), cut refl)
migrated places path device old new clean (Err (stop.Refused fault)) is_migrated told untold cut refused undone same =
    (refused (refused_else fault), undone (refused_else fault), same (refused_else fault))
migrated places path device old new clean (Err stop.Unreadable) is_migrated told untold cut refused undone same =
    (refused unreadable_else, undone unreadable_else, same unreadable_else)
migrated places path device old new clean (Err stop.NoSocket) is_migrated told untold cut refused undone same =
    (refused no_socket_else, undone no_socket_else, same no_socket_else)

-- How a command ends over a database, given how it ends at an office that has the database's tables.
use Rattle.std.proofs.Common.{◌≡◌, ℕ, ◌<◌, refl, subst, arith, Result, inl, inr}
use Rattle.sqlite.specs.Effect.{Database}
use Rattle.jiff.specs.declared.tz.timezone.TimeZone.{TimeZone}
use Rattle.hh_devices.specs.DeviceChanges.{DeviceChange}
use Rattle.hh_states.specs.Content.{Content}
use Rattle.hh_host.specs.Views.{HostView}
use Rattle.hh_session.specs.Refusals.{CountsMore}
use Rattle.hh_session.specs.errand.ErrandStop.{ErrandStop}
use Rattle.hh_session.specs.Errands.{EndsErrand, ErrandStep}
use Rattle.hh_session.proofs.EndLaws.{ends_alike, ends_then}
use Rattle.hh_sqlstore.specs.Holds.{Holds}
use Rattle.hh_sqlstore.specs.Values.{version}
use Rattle.hh_session.specs.Script.{IsMarketZone}
use Rattle.hh_session.specs.Views.{OfficeView}
use Rattle.hh_kept_office.specs.Kept.{EndsKept, EndsOver, LeavesKept, office_of}

-- the tables that the office returns have the content that it had
pub over_market : (host : HostView) (fails : Type 0) (zone : TimeZone) → IsMarketZone zone → (before after : Content) (last : OfficeView) → after ≡ last.content
    → (device : DeviceChange) (step : ErrandStep) (result : Result Unit ErrandStop) → EndsErrand host fails (office_of zone before) last device step result
    → EndsOver host fails device before after step result
over_market host fails zone market before after last same device step result ends =
    (zone, market, ends_alike host fails (office_of zone before) last (office_of zone after) same refl device step result ends)

-- a count that has risen from none is above none
risen : (count : ℕ) → CountsMore 0 count → 0 < count
risen count more = more (omega arith)

-- the office had refused nothing before, and the database contained its tables
pub kept : (host : HostView) (device : DeviceChange) (step : ErrandStep) (result : Result Unit ErrandStop) (found left : Database) (before : Content) → Holds version before found
    → (first count : ℕ) → first ≡ 0 → LeavesKept host (CountsMore first count) device before left step result → EndsKept host (0 < count) device found left step result
kept host device step result found left before held first count none (after, holds, over) =
    let (zone, market, ends) = over in
    let at_first : EndsErrand host (CountsMore 0 count) (office_of zone before) (office_of zone after) device step result =
    subst (λ n. EndsErrand host (CountsMore n count) (office_of zone before) (office_of zone after) device step result) none ends in
    inl (before, held, (after, holds, (zone, market, ends_then (CountsMore 0 count) (0 < count) (risen count) host (office_of zone before) (office_of zone after) device step result at_first)))

-- what holds if the store may have failed where `fails` holds, holds if it may have failed where `others` holds
pub kept_then : (fails others : Type 0) → (fails → others) → (host : HostView) (device : DeviceChange) (step : ErrandStep) (result : Result Unit ErrandStop) (found left : Database)
    → EndsKept host fails device found left step result → EndsKept host others device found left step result
kept_then fails others implies host device step result found left (inl (before, held, (after, holds, over))) =
    let (zone, market, ends) = over in
    inl (before, held, (after, holds, (zone, market, ends_then fails others implies host (office_of zone before) (office_of zone after) device step result ends)))
kept_then fails others implies host device step result found left (inr none) = inr none

use Rattle.std.proofs.Common.{◌≡◌, refl, rules, subst, sym}
use Rattle.hh_requests.specs.declared.request.Action.{Action}
use Rattle.hh_requests.specs.declared.request.Action.TheVariants as ask
use Rattle.hh_requests.specs.declared.request.Upload.{Upload}
use Rattle.hh_office.specs.steps.Loads.{NamesItsFile}
use Rattle.hh_office.proofs.OnceLaws.{next_reached}
use Rattle.hh_file_life.proofs.answering.keeps_reached.Goals as goal

-- an action that sends no file names none
names_none : (action : Action) → ((upload : Upload) → action ≡ ask.Load upload → ⊥) → NamesItsFile action
names_none (ask.Load upload) other = absurd (other upload refl)
names_none (ask.Run key) other = tt
names_none (ask.Account account date) other = tt
names_none (ask.Balance account) other = tt
names_none (ask.Contracts account date) other = tt
names_none (ask.Runs date) other = tt

pub returns-in-Load : goal.returns-in-Load
returns-in-Load c midnight s moment reached =
    let sent : NamesItsFile (ask.Load c.in-Load.upload) = search rules in
    next_reached midnight s moment c.args.request.now (subst NamesItsFile (sym c.in-Load.is) sent) reached

pub returns-in_default : goal.returns-in_default
returns-in_default c midnight s moment reached = next_reached midnight s moment c.args.request.now (names_none c.args.request.now.action c.in_default.not-Load) reached

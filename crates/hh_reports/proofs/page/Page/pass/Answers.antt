use Rattle.std.proofs.Common.{◌<◌, length, rules, subst}
use Rattle.hh_reports.specs.Output.{IsShort}
use Rattle.hh_reports.proofs.OutputLaws.{held_back, passed}
use Rattle.hh_reports.proofs.page.Page.pass.Goals as goal

pub returns-then-len-lt-PAGE_BYTES : goal.returns-then-len-lt-PAGE_BYTES
returns-then-len-lt-PAGE_BYTES g c =
    let short : length c.self.inside.text.items < 16_384 = search rules in
    held_back _ _ _ (subst IsShort c.self.view_is short)

pub returns : goal.returns
returns g c = passed _ _ _ _ c.finish.ensures.sends c.finish.ensures.empty

use Rattle.std.proofs.Common.{ap, ◌∙◌}
use Rattle.std.specs.Prelude.{option_map}
use Rattle.hh_runs.specs.declared.run_kind.RunKind.{RunKind}
use Rattle.hh_runs.specs.declared.summary.Summary.{Summary}
use Rattle.hh_office.proofs.EnquiryLaws.{latest_there}
use Rattle.hh_office.proofs.enquiries.latest_of.Goals as goal

pub returns : goal.returns
returns c =
    ap (option_map (λ (r : RunKind × Summary). record { date = c.args.date; kind = r.0 })) c.in_ok-latest.ensures.value ∙ latest_there c.args.date c.args.runs.now

use Rattle.std.proofs.Common.{◌≡◌, ◌∙◌, None}
use Rattle.hh_time.proofs.DateTextLaws.{none_reads, none_value, some_texts, whole_value}
use Rattle.hh_time.proofs.date.SettlementDate.read.Goals as goal

pub returns-in_err-read_date-clause-none : goal.returns-in_err-read_date-clause-none
returns-in_err-read_date-clause-none c =
    let gone : c.from_residual.result ≡ None = c.from_residual.ensures in
    rw gone (none_reads c.args.text.now c.in_err-read_date.ensures.none)

pub returns-in_err-read_date-clause-exact : goal.returns-in_err-read_date-clause-exact
returns-in_err-read_date-clause-exact c =
    let gone : c.from_residual.result ≡ None = c.from_residual.ensures in
    gone ∙ none_value c.args.text.now c.in_err-read_date.ensures.none

pub returns-clause-some : goal.returns-clause-some
returns-clause-some c =
    let named = c.in_ok-read_date.ensures.date in
    some_texts c.args.text.now c.in_ok-read_date.field-0 named.0 named.1 c.of_date.result c.of_date.ensures.number

pub returns-clause-exact : goal.returns-clause-exact
returns-clause-exact c =
    let named = c.in_ok-read_date.ensures.date in
    whole_value c.args.text.now c.in_ok-read_date.field-0 named.0 named.1 c.of_date.result c.of_date.ensures.number c.of_date.ensures.accepted

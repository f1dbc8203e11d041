use Rattle.std.proofs.Common.{◌<◌, ◌≤◌, length, rules, refl, subst, sym, Some}
use Rattle.hh_session.proofs.ScriptLaws.{read_larger, read_whole}
use Rattle.hh_session.proofs.script.read_script_file.Goals as goal

pub returns-then-len-gt-MOST_SCRIPT_BYTES-clause-unread : goal.returns-then-len-gt-MOST_SCRIPT_BYTES-clause-unread
returns-then-len-gt-MOST_SCRIPT_BYTES-clause-unread g c =
    let (all, read, front) = c.in_ok-bytes.ensures.bytes in
    let more : 16777216 < length c.in_ok-bytes.bytes.items = search rules in
    rw c.of.ensures (refl, (all, read, read_larger 16777216 all c.in_ok-bytes.bytes.items front more))

pub returns-clause-whole : goal.returns-clause-whole
returns-clause-whole g c =
    let (all, read, front) = c.in_ok-bytes.ensures.bytes in
    let few : length c.in_ok-bytes.bytes.items ≤ 16777216 = search rules in
    subst (λ bytes. (g.H.Host.view c.args.host.now).reads c.args.path.now (Some bytes)) (sym (read_whole 16777216 all c.in_ok-bytes.bytes.items front few)) read

use Rattle.std.proofs.Common.{sym}
use Rattle.std.proofs.Math.Bool.{true≢false}
use Rattle.std.proofs.lemmas.Str.{IsUtf8-from_ascii}
use Rattle.hh_http_replies.proofs.member_text.ascii_text.Goals as goal

pub unreachable-requires : goal.unreachable-requires
unreachable-requires c = true≢false (sym (c.in-Err.ensures.succeeds (IsUtf8-from_ascii c.args.bytes.items c.requires)))

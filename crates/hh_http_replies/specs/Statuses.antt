-- The statuses of replies: a number and its phrase.
use Rattle.std.specs.Prelude.{ℕ, ◌==◌, List, codes, if◌then◌else◌}
use Rattle.hh_names.specs.declared.fault.Refusal.{Refusal}
use Rattle.hh_names.specs.declared.fault.Refusal.TheVariants as refusal
use Rattle.hh_requests.specs.declared.reply.Reply.{Reply}
use Rattle.hh_requests.specs.declared.reply.Reply.TheVariants as reply

-- the number of a refusal's status
abbrev pub status_of : Refusal → ℕ
status_of refusal.TooManyRows = 400
status_of refusal.BadHeader = 400
status_of refusal.BadRecord = 400
status_of refusal.BadField = 400
status_of refusal.BadRequest = 400
status_of refusal.Forbidden = 403
status_of refusal.NoRoute = 404
status_of refusal.NoRun = 404
status_of refusal.BadMethod = 405
status_of refusal.FileChanged = 409
status_of refusal.RunOrder = 409
status_of refusal.NoInitialRun = 409
status_of refusal.DayNotOver = 409
status_of refusal.MissingPrice = 409
status_of refusal.MissingMeter = 409
status_of refusal.TooLarge = 409
status_of refusal.LengthRequired = 411
status_of refusal.FileTooLarge = 413
status_of refusal.BodyTooLarge = 413
status_of refusal.Memory = 503
status_of refusal.Store = 503
status_of _ = 422

-- the number of a reply's status
abbrev pub reply_status : Reply → ℕ
reply_status (reply.Refused fault) = status_of fault.refusal
reply_status given = 200

-- the phrase of a status
abbrev pub phrase_of : ℕ → List ℕ
phrase_of status =
    if status == 200 then codes "OK"
    else if status == 400 then codes "Bad Request"
    else if status == 403 then codes "Forbidden"
    else if status == 404 then codes "Not Found"
    else if status == 405 then codes "Method Not Allowed"
    else if status == 409 then codes "Conflict"
    else if status == 411 then codes "Length Required"
    else if status == 413 then codes "Content Too Large"
    else if status == 422 then codes "Unprocessable Content"
    else codes "Service Unavailable"

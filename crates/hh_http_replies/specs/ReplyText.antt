-- The bytes of replies (RFC 9112 in the office's profile): a status line, the headers, an empty line, and a body of compact JSON.
use Rattle.std.specs.Prelude.{◌≡◌, ◌⊎◌, ℕ, List, [], ◌++◌, length, Bool, decimal, codes, if◌then◌else◌}
use Rattle.serde_json.specs.Written.{compact_text}
use Rattle.hh_names.specs.Faults.{plain_fault}
use Rattle.hh_requests.specs.declared.reply.Reply.{Reply}
use Rattle.hh_requests.specs.declared.reply.Reply.TheVariants as reply
use Rattle.hh_http_replies.specs.declared.refusal.Refused.{Refused}
use Rattle.hh_http_replies.specs.declared.refusal.RequestRefusal.{RequestRefusal}
use Rattle.hh_http_replies.specs.declared.refusal.RequestRefusal.TheVariants as refusal
use Rattle.hh_http_replies.specs.Bodies.{reply_body}
use Rattle.hh_http_replies.specs.Causes.{refusal_of}
use Rattle.hh_http_replies.specs.Statuses.{phrase_of, reply_status}

-- the head of a reply with a status, a phrase, the length of the body in bytes, and one more line
abbrev pub reply_head : ℕ → List ℕ → ℕ → List ℕ → List ℕ
reply_head status phrase size line =
    codes "HTTP/1.1 " ++ (decimal status ++ (codes " " ++ (phrase ++ (codes "\r\nContent-Type: application/json\r\nContent-Length: "
    ++ (decimal size ++ (codes "\r\nConnection: close\r\n" ++ (line ++ codes "\r\n")))))))

-- a reply with one more line in its head: its head with its body, or only its head if that is asked for
abbrev pub reply_with : List ℕ → Reply → Bool → List ℕ
reply_with line given head_only =
    let body : List ℕ = compact_text (reply_body given) in
    let status : ℕ = reply_status given in
    let head : List ℕ = reply_head status (phrase_of status) (length body) line in
    if head_only then head else head ++ body

-- a reply of the office
abbrev pub reply_text : Reply → Bool → List ℕ
reply_text = reply_with []

-- the line that tells the method of a path
abbrev pub allow_line : RequestRefusal → List ℕ
allow_line (refusal.BadMethod allow) = codes "Allow: " ++ (allow ++ codes "\r\n")
allow_line cause = []

-- the reply to a request that is refused before the office is asked
abbrev pub refused_text : Refused → List ℕ
refused_text r = reply_with (allow_line r.cause) (reply.Refused (plain_fault (refusal_of r.cause))) r.head_only

-- the reply that tells that memory was refused, or its head if only that is asked for
abbrev pub memory_text : Bool → List ℕ
memory_text head_only = refused_text (record { cause = refusal.Memory; head_only = head_only })

-- bytes reply to a refused request: they tell its refusal, or that memory for building that reply was refused
abbrev pub RepliesRefused : Refused → List ℕ → Type 0
RepliesRefused r text = (text ≡ refused_text r) ⊎ (text ≡ memory_text r.head_only)

-- What is read after a head is what the bytes ask.
use Rattle.std.proofs.Common.{◌≡◌, ◌∙◌, ℕ, List, ◌++◌, length, take, drop, Option, Some, None, IfSome, Result, Ok, Err, inl, inr, append_assoc, refl, sym, ap, subst, arith}
use Rattle.std.proofs.lemmas.List.{length-map, length-take}
use Rattle.std.specs.Io.KnownBytes.{Consumes, prepend_known}
use Rattle.httparse.proofs.GrammarLemmas.{ReadsRequest-append}
use Rattle.httparse.specs.Grammar.{Field, ReadsRequest, RequestHead, print_request}
use Rattle.httparse.specs.Spans.{AreFieldsAt, IsRequestAt, header_bytes, name_and_value}
use Rattle.httparse.specs.declared.spans.HeaderSpan.{HeaderSpan}
use Rattle.httparse.specs.declared.spans.RequestSpans.{RequestSpans}
use Rattle.hh_requests.specs.declared.request.Request.{Request}
use Rattle.hh_http_heads.specs.Found.{FindsHead, HasGiven}
use Rattle.hh_http_heads.specs.Fronts.{IsFront}
use Rattle.hh_http_heads.specs.Headings.{Heading, asks_head, heading_of}
use Rattle.hh_http_replies.specs.declared.refusal.RequestRefusal.{RequestRefusal}
use Rattle.hh_http_replies.specs.declared.refusal.RequestRefusal.TheVariants as refusal
use Rattle.hh_wire.specs.Behind.{ReadsBehind}
use Rattle.hh_wire.specs.steps.Behind.{fault_behind}
use Rattle.hh_wire.specs.Message.{Awaits, ByCause, FailsAwaiting, LacksBody, Message, IsMessage, Reads, asked_by}
use Rattle.hh_wire.specs.Stops.{StopsWith}
use Rattle.hh_wire.specs.declared.incoming.Incoming.TheVariants.{Asked}
use Rattle.hh_wire.specs.declared.stop.Stop.{Stop}
use Rattle.hh_wire.specs.declared.stop.Stop.TheVariants.{Read, Refused}

by_cause : (cause : RequestRefusal) (M N X Y : Type 0) → N → (X → Y) → ByCause cause M X → ByCause cause N Y
by_cause refusal.Memory M N X Y n f x = n
by_cause refusal.NoRoute M N X Y n f x = f x
by_cause (refusal.BadMethod allow) M N X Y n f x = f x
by_cause refusal.LengthRequired M N X Y n f x = f x
by_cause refusal.BadRequest M N X Y n f x = f x
by_cause refusal.BodyTooLarge M N X Y n f x = f x

field_count : (bytes : List ℕ) (headers : List HeaderSpan) (count : ℕ) (fields : List Field) → AreFieldsAt bytes headers count fields → length fields ≡ length (take count headers)
field_count bytes headers count fields are =
    sym (length-map fields name_and_value) ∙ sym (ap length are) ∙ length-map (take count headers) (header_bytes bytes)

-- if a front was taken and then more, both were taken together
consumes_joined : (old mid new : Option (List ℕ)) (front behind given : List ℕ) → Consumes old mid (front ++ behind) → Consumes (prepend_known behind mid) new given
    → Consumes old new (front ++ given)
consumes_joined None mid new front behind given taken more = tt
consumes_joined (Some bytes) None new front behind given taken more = absurd taken
consumes_joined (Some bytes) (Some rest) None front behind given taken more = absurd more
consumes_joined (Some bytes) (Some rest) (Some left) front behind given taken more =
    taken ∙ append_assoc front behind rest ∙ ap (λ (t : List ℕ). front ++ t) more ∙ sym (append_assoc front given left)

-- a request that was not read
abbrev pub stopped : Stop → Result Request Stop
stopped stop = Err stop

-- A head was found at the beginning of a buffer. Its heading is known, and so is what came after it.
module _ (buffer : List ℕ) (headers : List HeaderSpan) (read : ℕ) (spans : RequestSpans) (most : length buffer ≡ 8192) (room : length headers ≡ 32)
    (h : Heading) (behind : List ℕ) (says : (head : RequestHead) → IsRequestAt (take read buffer) headers spans head → h ≡ heading_of head)
    (follows : behind ≡ drop spans.len (take read buffer)) where
  found_front : (bytes rest : List ℕ) → FindsHead (Some bytes) (Some rest) buffer headers read spans → (head : RequestHead) × IsFront bytes head (behind ++ rest) × (h ≡ heading_of head)
  found_front bytes rest found =
      let (head, at) = found.head in
      let within = found.room in (
        head,
        subst (λ (b : List ℕ). IsFront bytes head (b ++ rest)) (sym follows) (record {
          reads = subst (λ (t : List ℕ). ReadsRequest t head (drop spans.len (take read buffer) ++ rest)) (sym found.taken)
              (ReadsRequest-append (take read buffer) head (drop spans.len (take read buffer)) rest at.reads);
          short = omega (arith, at.len, within.section.len_fits, length-take read buffer);
          few = omega (arith, within.section.count_fits, length-take spans.headers headers, field_count _ _ _ _ at.fields);
        }),
        says head at,
      )

  is_message : (bytes rest : List ℕ) → FindsHead (Some bytes) (Some rest) buffer headers read spans → (message : Message) → asked_by h (behind ++ rest) ≡ message → IsMessage bytes message
  is_message bytes rest found message comes =
      let (head, front, same) = found_front bytes rest found in
      inr (inl (head, behind ++ rest, front, sym comes ∙ ap (λ (g : Heading). asked_by g (behind ++ rest)) same))

  pub request_read : (old mid : Option (List ℕ)) (request : Request) → FindsHead old mid buffer headers read spans
      → IfSome mid (λ rest. ReadsBehind h (asked_by h (behind ++ rest)) (Ok request)) → IfSome old (λ bytes. Reads bytes (Ok (Asked request)))
  request_read None mid request found comes = tt
  request_read (Some bytes) None request found comes = absurd found.taken
  request_read (Some bytes) (Some rest) request found comes = is_message bytes rest found (Ok (Asked request)) comes

  pub stop_read : (old mid : Option (List ℕ)) (stop : Stop) → FindsHead old mid buffer headers read spans
      → IfSome mid (λ rest. ReadsBehind h (asked_by h (behind ++ rest)) (Err stop)) → IfSome old (λ bytes. Reads bytes (Err (fault_behind h stop)))
  stop_read None mid stop found comes = tt
  stop_read (Some bytes) None stop found comes = absurd found.taken
  stop_read (Some bytes) (Some rest) Read found comes = tt
  stop_read (Some bytes) (Some rest) (Refused cause) found comes =
      let (head, front, same) = found_front bytes rest found in
      by_cause cause _ _ _ _ (head, behind ++ rest, front, ap asks_head same) (is_message bytes rest found _) comes

  -- if a read after it failed, all that the source had given is that head with too little of its body
  lacking_read : (old mid new : Option (List ℕ)) → FindsHead old mid buffer headers read spans → HasGiven (LacksBody h) (prepend_known behind mid) new → HasGiven Awaits old new
  lacking_read old mid new found (given, consumed, lacks) =
      let (head, at) = found.head in
      let within = found.room in
      let front : IsFront (print_request head ++ given) head given = record {
        reads = (at.reads.0, refl);
        short = omega (arith, at.len, within.section.len_fits, length-take read buffer);
        few = omega (arith, within.section.count_fits, length-take spans.headers headers, field_count _ _ _ _ at.fields);
      } in
      let lacks_it = subst (λ (g : Heading). LacksBody g given) (says head at) lacks in
      let text : take read buffer ≡ print_request head ++ behind = at.reads.1 ∙ ap (λ (t : List ℕ). print_request head ++ t) (sym follows) in
      let all = subst (λ (t : List ℕ). Consumes old mid t) text found.taken in
      (print_request head ++ given, consumes_joined old mid new (print_request head) behind given all consumed, inr (head, given, front, lacks_it))

  pub stop_awaits : (old mid new : Option (List ℕ)) (stop : Stop) → FindsHead old mid buffer headers read spans
      → StopsWith (LacksBody h) (stopped stop) (prepend_known behind mid) new → FailsAwaiting (Err (fault_behind h stop)) old new
  stop_awaits old mid new Read found awaited = lacking_read old mid new found awaited
  stop_awaits old mid new (Refused cause) found awaited = tt

-- What is sent is one whole request.
use Rattle.std.proofs.Common.{◌≡◌, ℕ, Bool, true, false, not, if◌then◌else◌, ◌&&◌, ◌||◌, List, [], ◌∷◌, ◌++◌, append_assoc, append-nil, ap, ◌∙◌, refl, subst, sym, Some, None, codes, arith, map, flat_map}
use Rattle.std.specs.List.{list_any}
use Rattle.std.proofs.lemmas.List.Concat.{flat_map-cons}
use Rattle.http1.specs.declared.conn.BodySize.TheVariants.{Empty}
use Rattle.http1.specs.declared.error.WriteError.TheVariants.{InvalidStartLine, InvalidHeader}
use Rattle.httparse.specs.Grammar.{ReadsRequest, is_token, print_field, print_request}
use Rattle.http1.specs.Client.{new_client, plan_fields, request_refusal}
use Rattle.http1.specs.Fields.{Header, is_framing_field, known_fields}
use Rattle.http1.specs.Head.{are_headers, field_of, head_refusal, is_header, is_request_line, is_trimmed_value, print_header, print_headers, request_head, request_text}
use Rattle.http1.specs.Text.{eq_ignore_case}
use Rattle.http1.proofs.HeadRoundTrip.{request_reads_back}
use Rattle.http1.proofs.TextLemmas.{flat_map-map}
use Rattle.peer_http.specs.Fields.{crlf, field_line, field_lines, is_own, may_be_added}
use Rattle.peer_http.specs.Lines.{line_of, lines_of}
use Rattle.peer_http.specs.Requests.{LIMITS, IsOneRequest, request_for}
use Rattle.peer_http.specs.declared.field.Field.{Field}
use Rattle.peer_http.proofs.RequestLemmas.{headers_for}

-- the head of a request with a host and these fields may be written
may_be_written : (host target : List ℕ) → request_refusal (new_client LIMITS) (codes "GET") target Empty (headers_for host) ≡ None → head_refusal (is_request_line (codes "GET") target 1) (headers_for host) ≡ None
unfolding plan_fields known_fields eq_ignore_case
may_be_written host target valid = valid

or_false : (a b : Bool) → a || b ≡ false → (a ≡ false) × (b ≡ false)
or_false true b h = absurd (grind (arith, h))
or_false false b h = (refl, h)

added_parts : (token own trimmed : Bool) → token && (not own && trimmed) ≡ true → (token && trimmed ≡ true) × (own ≡ false)
added_parts true false trimmed h = (h, refl)
added_parts true true trimmed h = absurd (grind (arith, h))
added_parts false own trimmed h = absurd (grind (arith, h))

own_frames : (host agent length coding others : Bool) → host || (agent || (length || (coding || others))) ≡ false → length || coding ≡ false
own_frames host agent length coding others e =
    let no_host = or_false host (agent || (length || (coding || others))) e in
    let no_agent = or_false agent (length || (coding || others)) no_host.1 in
    let no_length = or_false length (coding || others) no_agent.1 in
    let no_coding = or_false coding others no_length.1 in
    λ i. no_length.0 i || no_coding.0 i

-- what may be added is a header, and frames nothing
added_is : (f : Header) → may_be_added f ≡ true → (is_header f ≡ true) × (is_framing_field f ≡ false)
added_is f h =
    let parts = added_parts (is_token f.0) (is_own f.0) (is_trimmed_value f.1) h in
    let named : List ℕ → Bool = λ own. eq_ignore_case f.0 own in (
      parts.0,
      own_frames (named (codes "host")) (named (codes "user-agent")) (named (codes "content-length")) (named (codes "transfer-encoding"))
          (list_any named (codes "connection" ∷ codes "keep-alive" ∷ codes "proxy-connection" ∷ codes "te" ∷ codes "trailer" ∷ codes "upgrade" ∷ codes "expect" ∷ [])) parts.1,
    )

all_added : (fields : List Field) → (are_headers (lines_of fields) ≡ true) × (list_any is_framing_field (lines_of fields) ≡ false)
unfolding are_headers
all_added [] = (refl, refl)
all_added (f ∷ fs) =
    let first = added_is (line_of f) f.addable in
    let rest = all_added fs in
    (λ i. first.0 i && rest.0 i, λ i. first.1 i || rest.1 i)

line_is : (f : Header) → print_header f ≡ field_line f
line_is f = simp append_assoc

lines_are : (fields : List Header) → print_headers fields ≡ field_lines fields
lines_are [] = refl
lines_are (f ∷ fs) = flat_map-cons print_header f fs ∙ (λ i. line_is f i ++ lines_are fs i) ∙ sym (flat_map-cons field_line f fs)

fields_are : (fields : List Header) → flat_map print_field (map field_of fields) ≡ field_lines fields
fields_are fields = flat_map-map print_field field_of fields ∙ lines_are fields

shape : (g t v e h host a f : List ℕ) → g ++ (t ++ v ++ e ++ (h ++ (host ++ e ++ (a ++ (e ++ f)) ++ e))) ≡ (g ++ t ++ v ++ e ++ h ++ host ++ e ++ a ++ e) ++ f ++ e
shape g t v e h host a f = simp append_assoc

text_is : (host target : List ℕ) (fields : List Header) → request_text (codes "GET") target 1 (headers_for host ++ fields) ≡ request_for host target fields
unfolding print_request
text_is host target fields =
    let version : List ℕ = codes " HTTP/1.1" in
    let agent : List ℕ = codes "user-agent: peer_front" in
    ap (λ l. codes "GET " ++ (target ++ version ++ crlf ++ (codes "host: " ++ (host ++ crlf ++ (agent ++ (crlf ++ l)) ++ crlf)))) (fields_are fields)
    ∙ shape (codes "GET ") target version crlf (codes "host: ") host agent (field_lines fields)

pub one_request : (host target : List ℕ) (fields : List Field) → request_refusal (new_client LIMITS) (codes "GET") target Empty (headers_for host) ≡ None → IsOneRequest (request_for host target (lines_of fields))
unfolding are_headers eq_ignore_case
one_request host target fields valid =
    let all = all_added fields in
    let headers = headers_for host ++ lines_of fields in
    let line = is_request_line (codes "GET") target 1 in
    let named = is_header (codes "host", host) in
    let asks = is_header (codes "user-agent", codes "peer_front") in
    let written = subst (λ r. (if line then (if named && (asks && r) then None else Some InvalidHeader) else Some InvalidStartLine) ≡ None) (sym all.0) (may_be_written host target valid) in
    let back = request_reads_back (codes "GET") target 1 headers [] written in
    record {
      head = request_head (codes "GET") target 1 headers;
      reads = subst (λ t. ReadsRequest t (request_head (codes "GET") target 1 headers) []) (append-nil _ ∙ text_is host target (lines_of fields)) back.reads;
      bare = ap (list_any is_framing_field) back.fields ∙ all.1;
    }

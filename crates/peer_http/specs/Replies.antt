-- The reply that a text begins with: interim responses, and then the final one.
use Rattle.std.specs.Prelude.{◌≡◌, ◌≢◌, ℕ, Bool, true, false, ◌<◌, ◌≤◌, List, [], ◌++◌, drop, map, take}
use Rattle.std.specs.Prelude.{Result, Ok, Err}
use Rattle.httparse.specs.Grammar.{Field, ResponseHead, status_code}
use Rattle.httparse.specs.Spans.{header_bytes}
use Rattle.httparse.specs.declared.spans.HeaderSpan.{HeaderSpan}
use Rattle.httparse.specs.declared.spans.ResponseSpans.{ResponseSpans}
use Rattle.http1.specs.declared.framing.Framing.{Framing}
use Rattle.http1.specs.declared.framing.MethodKind.TheVariants.{Other}
use Rattle.http1.specs.declared.conn.Event.{Event}
use Rattle.http1.specs.declared.conn.Event.TheVariants as event
use Rattle.http1.specs.declared.conn.Reading.TheVariants as Reads
use Rattle.http1.specs.declared.client.Client.{Client}
use Rattle.http1.specs.declared.decode.Decoder.{Decoder}
use Rattle.http1.specs.declared.decode.Decoder.TheVariants.{UntilClose}
use Rattle.http1.specs.Body.{body_of}
use Rattle.http1.specs.Client.{IsIdle}
use Rattle.http1.specs.Conn.{is_until_close, keeps_alive}
use Rattle.http1.specs.Decoder.{Completes, Continues, decoder_for}
use Rattle.http1.specs.Fields.{known_fields}
use Rattle.http1.specs.Message.{AcceptsResponse, Response, ReadsResponseMessage, known_of}
use Rattle.peer_http.specs.Requests.{LIMITS, Awaits}
use Rattle.peer_http.specs.declared.fault.Fault.{Fault}
use Rattle.peer_http.specs.declared.heads.Found.{Found}
use Rattle.peer_http.specs.declared.heads.Found.TheVariants as find
use Rattle.peer_http.specs.declared.fault.ReplyFault.{ReplyFault}
use Rattle.peer_http.specs.declared.fault.ReplyFault.TheVariants as fault
use Rattle.peer_http.specs.declared.content.Taken.{Taken}
use Rattle.peer_http.specs.declared.content.Taken.TheVariants as take

-- a response that another one follows: not 101, behind which is another protocol (RFC 9110, 15.2 and 15.2.2)
abbrev pub IsInterim : ResponseHead → Type 0
IsInterim head = (status_code head < 200) × (status_code head ≢ 101)

-- what the body carries is the content: no coding beside `chunked` was put on it (RFC 9112, 6.1 and 7)
abbrev pub IsUncoded : ResponseHead → Type 0
IsUncoded head = (known_of head.fields).other_coding ≡ false

-- this head and this framing keep the connection (RFC 9112, 9.3)
abbrev pub Persists : ResponseHead → Framing → Type 0
Persists head framing = (keeps_alive head.minor (known_of head.fields) ≡ true) × (is_until_close framing ≡ false)

-- interim responses stand at the front of the text, and then comes the rest
pub data Interims (text : List ℕ) : List ℕ → Type 0 where
  none : Interims text text
  more : (rest : List ℕ) (head : ResponseHead) (framing : Framing) (after : List ℕ) → Interims text rest
      → AcceptsResponse LIMITS Other rest head framing after → IsInterim head → Interims text after

-- the text begins with a reply of this status and this body
pub record IsReply (text : List ℕ) (status : ℕ) (value : List ℕ) : Type 0 where
  pub start : List ℕ
  pub interims : Interims text start
  pub response : Response
  pub rest : List ℕ
  pub reads : ReadsResponseMessage LIMITS Other start response rest
  pub final : 200 ≤ status
  pub code : status ≡ status_code response.head
  pub uncoded : IsUncoded response.head
  pub body : value ≡ response.body.bytes

-- the text begins with this reply, and this stands behind it
abbrev pub IsReplyBefore : List ℕ → ℕ → List ℕ → List ℕ → Type 0
IsReplyBefore text status value rest = (r : IsReply text status value) × (r.rest ≡ rest)

-- the text begins with this reply, behind which this stands, and where K holds its head and its framing keep the connection
abbrev pub IsReplyKept : Type 0 → List ℕ → ℕ → List ℕ → List ℕ → Type 0
IsReplyKept K text status value rest =
    (r : IsReplyBefore text status value rest) × (K → Persists r.0.response.head r.0.reads.framing)

-- behind interim responses the text has the whole head of a final one, whose status this is
pub record HasHead (text : List ℕ) (status : ℕ) : Type 0 where
  pub start : List ℕ
  pub interims : Interims text start
  pub head : ResponseHead
  pub framing : Framing
  pub rest : List ℕ
  pub accepts : AcceptsResponse LIMITS Other start head framing rest
  pub final : 200 ≤ status
  pub code : status ≡ status_code head

-- a status that is told as a fault is that of the final reply whose head came, and not 200
abbrev pub IsToldOf : List ℕ → ReplyFault → Type 0
IsToldOf came fault.Silent = Unit {0}
IsToldOf came fault.Lost = Unit {0}
IsToldOf came fault.Malformed = Unit {0}
IsToldOf came fault.TooLong = Unit {0}
IsToldOf came (fault.Status code) = ∥ HasHead came code ∥₁ × (code ≢ 200)
IsToldOf came fault.Memory = Unit {0}

-- the end of the connection ends a body that runs until then, and nothing else; no request may follow
abbrev pub EndsHere : Bool → Client → Client → Type 0
EndsHere true old new = (old.reading ≡ Reads.Body UntilClose) × ¬ (IsIdle new)
EndsHere false old new = Unit {0}

-- of the head that was read, if one was, no field names a coding beside `chunked`
abbrev pub IsUncodedAt : List ℕ → List HeaderSpan → Event ResponseSpans → Type 0
IsUncodedAt input spans e =
    (r : ResponseSpans) → e ≡ event.Head r → (known_fields (map (header_bytes input) (take r.headers spans))).other_coding ≡ false

-- the head of an interim response was taken
pub record TakesInterim (unread unread' : List ℕ) : Type 0 where
  pub head : ResponseHead
  pub framing : Framing
  pub accepts : AcceptsResponse LIMITS Other unread head framing unread'
  pub interim : IsInterim head

-- the head of the final response was taken, and the client goes on with its body
pub record TakesFinal (c : Client) (unread unread' : List ℕ) (status : ℕ) : Type 0 where
  pub head : ResponseHead
  pub framing : Framing
  pub accepts : AcceptsResponse LIMITS Other unread head framing unread'
  pub final : 200 ≤ status
  pub code : status ≡ status_code head
  pub uncoded : IsUncoded head
  pub body : c.reading ≡ Reads.Body (decoder_for LIMITS framing)
  pub alive : c.keep_alive ≡ true → Persists head framing

-- what a step before the body finds
abbrev pub FindsNext : Client → List ℕ → List ℕ → Result Found Fault → Type 0
FindsNext c unread unread' (Ok (find.Final status)) = TakesFinal c unread unread' status
FindsNext c unread unread' (Ok find.Interim) = Awaits c × TakesInterim unread unread'
FindsNext c unread unread' (Ok find.Nothing) = Awaits c × (unread' ≡ unread)
FindsNext c unread unread' (Err f) = Unit {0}

-- a piece of the body was taken by a client that keeps the connection or not, and does so behind it
pub record TakesPiece (alive : Bool) (d : Decoder) (c : Client) (unread unread' value value' : List ℕ) : Type 0 where
  pub new : Decoder
  pub len : ℕ
  pub piece : List ℕ
  pub reading : c.reading ≡ Reads.Body new
  pub still : c.keep_alive ≡ alive
  pub continues : Continues d unread new len piece
  pub rest : unread' ≡ drop len unread
  pub grown : value' ≡ value ++ piece

-- the end of the body was taken: another request may be sent only where the client keeps the connection
pub record TakesEnd (alive : Bool) (d : Decoder) (c : Client) (unread unread' value value' : List ℕ) : Type 0 where
  pub trailers : List Field
  pub len : ℕ
  pub completes : (later : List ℕ) → Completes d (unread ++ later) (body_of [] trailers) (drop len unread ++ later)
  pub rest : unread' ≡ drop len unread
  pub same : value' ≡ value
  pub idle : IsIdle c → alive ≡ true

-- no piece was there: of a body that runs until the end of the connection, nothing is left unread
pub record TakesNothing (alive : Bool) (d : Decoder) (c : Client) (unread unread' value value' : List ℕ) : Type 0 where
  pub taken : TakesPiece alive d c unread unread' value value'
  pub drained : taken.new ≡ UntilClose → unread' ≡ []

-- what a step within a body takes
abbrev pub TakesAs : Client → Bool → Decoder → List ℕ → List ℕ → List ℕ → List ℕ → Result Taken Fault → Type 0
TakesAs c alive d unread unread' value value' (Ok take.Piece) = TakesPiece alive d c unread unread' value value'
TakesAs c alive d unread unread' value value' (Ok take.End) = TakesEnd alive d c unread unread' value value'
TakesAs c alive d unread unread' value value' (Ok take.Nothing) = TakesNothing alive d c unread unread' value value'
TakesAs c alive d unread unread' value value' (Err f) = Unit {0}

-- the same, of a client that goes on with a body
abbrev pub TakesNext : Client → Client → List ℕ → List ℕ → List ℕ → List ℕ → Result Taken Fault → Type 0
TakesNext old new unread unread' value value' result =
    (d : Decoder) → old.reading ≡ Reads.Body d → TakesAs new old.keep_alive d unread unread' value value' result

-- A reply that is read as its bytes come.
use Rattle.std.specs.Prelude.{◌≡◌, ℕ, List, [], ◌++◌, Option, Some, None, Result, Ok, Err, Bool, true, false}
use Rattle.http1.specs.declared.client.Client.{Client}
use Rattle.http1.specs.declared.conn.Reading.TheVariants as Reads
use Rattle.http1.specs.declared.decode.Decoder.{Decoder}
use Rattle.http1.specs.declared.decode.Decoder.TheVariants.{UntilClose}
use Rattle.http1.specs.Body.{Body}
use Rattle.http1.specs.Client.{IsIdle}
use Rattle.http1.specs.Decoder.{Completes}
use Rattle.peer_http.specs.Requests.{Awaits}
use Rattle.peer_http.specs.Replies.{HasHead, Interims, IsReply, IsReplyBefore, IsReplyKept, Persists}
use Rattle.peer_http.specs.declared.fault.Fault.{Fault}
use Rattle.peer_http.specs.declared.fault.ReplyFault.{ReplyFault}
use Rattle.peer_http.specs.declared.reply.Reply.{Reply}
use Rattle.peer_http.specs.declared.stage.Stage.{Stage}
use Rattle.peer_http.specs.declared.stage.Stage.TheVariants as stage

-- whatever makes a whole body of what is unread makes a whole reply of what came, which keeps the connection where K holds
abbrev pub Proceeds : Type 0 → List ℕ → ℕ → List ℕ → Decoder → List ℕ → Type 0
Proceeds K came status value d unread =
    (later : List ℕ) (body : Body) (rest : List ℕ) → Completes d (unread ++ later) body rest
    → IsReplyKept K (came ++ later) status (value ++ body.bytes) rest

-- the head of the final reply came, and the client goes on with its body, of which this value was taken
abbrev pub IsInContent : List ℕ → ℕ → Client → List ℕ → List ℕ → Type 0
IsInContent came status c unread value =
    (d : Decoder) × (c.reading ≡ Reads.Body d) × Proceeds (c.keep_alive ≡ true) came status value d unread

-- how far a reply was read, of the bytes that came
abbrev pub IsReadTo : List ℕ → Stage → Client → List ℕ → List ℕ → Type 0
IsReadTo came stage.Head c unread value = Interims came unread × (value ≡ [])
IsReadTo came (stage.Content status) c unread value = IsInContent came status c unread value
IsReadTo came stage.Over c unread value = Unit {0}

-- these bytes begin with this reply, whatever comes behind them
abbrev pub IsStanding : List ℕ → ℕ → List ℕ → Type 0
IsStanding came status value = (later : List ℕ) → IsReply (came ++ later) status value

-- the same, this is unread behind the reply, and where K holds it keeps the connection
abbrev pub IsStandingBefore : Type 0 → List ℕ → ℕ → List ℕ → List ℕ → Type 0
IsStandingBefore K came status value unread = (later : List ℕ) → IsReplyKept K (came ++ later) status value (unread ++ later)

-- all that came is this reply, which keeps the connection
abbrev pub EndsOpen : List ℕ → ℕ → List ℕ → Type 0
EndsOpen came status value =
    (r : IsReplyBefore came status value []) × Persists r.0.response.head r.0.reads.framing

-- another request may follow: the client takes one, and all that came is this reply, which keeps the connection
abbrev pub MayAskAgain : List ℕ → Client → Reply → Type 0
MayAskAgain came c r = IsIdle c × ∥ EndsOpen came r.status r.value.items ∥₁

-- what a client finds of heads in what is unread
abbrev pub FindsHead : Client → List ℕ → List ℕ → Result (Option ℕ) Fault → Type 0
FindsHead c unread unread' (Ok (Some status)) = (came : List ℕ) → Interims came unread → IsInContent came status c unread' [] × HasHead came status
FindsHead c unread unread' (Ok None) = Awaits c × ((came : List ℕ) → Interims came unread → Interims came unread')
FindsHead c unread unread' (Err f) = Unit {0}

-- what was taken of a body: the whole of it, or what is there
abbrev pub TakesContent : Client → Client → List ℕ → List ℕ → List ℕ → List ℕ → Result Bool Fault → Type 0
TakesContent old new unread unread' value value' (Ok true) =
    (came : List ℕ) (status : ℕ) → IsInContent came status old unread value → IsStandingBefore (IsIdle new) came status value' unread'
TakesContent old new unread unread' value value' (Ok false) =
    ((came : List ℕ) (status : ℕ) → IsInContent came status old unread value → IsInContent came status new unread' value')
    × ((d : Decoder) → old.reading ≡ Reads.Body d → new.reading ≡ Reads.Body UntilClose → unread' ≡ [])
TakesContent old new unread unread' value value' (Err f) = Unit {0}

-- what was read of a body, of bytes that begin with a reply: the whole of it, or all that is there, which is the whole where it
-- runs until the end of the connection
abbrev pub ReadsBody : List ℕ → ℕ → Client → List ℕ → List ℕ → Result Bool ReplyFault → Type 0
ReadsBody came status c unread value (Ok true) = ∥ IsStandingBefore (IsIdle c) came status value unread ∥₁
ReadsBody came status c unread value (Ok false) = ∥ (c.reading ≡ Reads.Body UntilClose → IsReplyBefore came status value []) ∥₁
ReadsBody came status c unread value (Err f) = Unit {0}

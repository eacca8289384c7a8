-- When a use of a connection is over.
use Rattle.std.specs.Prelude.{ℕ, List}
use Rattle.peer_http.specs.Receivings.{EndsOpen}
use Rattle.peer_http.specs.Requests.{IsOneRequest}
use Rattle.peer_runtime.specs.declared.wire.Wire.{Wire}

-- these bytes are one whole reply, which keeps the connection
abbrev pub IsOneReply : List ℕ → Type 0
IsOneReply came = (status : ℕ) × (content : List ℕ) × EndsOpen came status content

-- one whole request was sent and nothing else, and all that came is one whole reply, which keeps the connection
abbrev pub IsOver : Wire → Type 0
IsOver wire = ∥ IsOneRequest wire.sent.bytes ∥₁ × ∥ IsOneReply wire.came.bytes ∥₁

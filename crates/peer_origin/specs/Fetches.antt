-- What a fetch does on connections to an origin.
use Rattle.std.specs.Prelude.{◌≡◌, ℕ, ◌≤◌, List, [], ◌∷◌, ◌++◌, length, Option, Some, Result, Ok, Err}
use Rattle.std.specs.Io.KnownBytes.{Appends}
use Rattle.std.specs.Prelude.{Vec}
use Rattle.std.specs.declared.alloc.Global.{Global}
use Rattle.peer_view.specs.Moves.{Moves}
use Rattle.peer_view.specs.Sinks.{MAX_VALUE}
use Rattle.peer_http.specs.Replies.{IsReply}
use Rattle.peer_http.specs.declared.fault.ReplyFault.{ReplyFault}
use Rattle.peer_http.specs.declared.fault.ReplyFault.TheVariants as told
use Rattle.peer_origin.specs.declared.fault.FetchFault.{FetchFault}
use Rattle.peer_origin.specs.declared.fault.FetchFault.TheVariants as fault
use Rattle.peer_origin.specs.declared.failure.Failure.{Failure}
use Rattle.peer_origin.specs.declared.failure.Failure.TheVariants as fail

-- why a try gave no value, by the fault of its reply
abbrev pub failure_by : ReplyFault → Failure
failure_by told.Silent = fail.Silent
failure_by told.Lost = fail.Fetch fault.Lost
failure_by told.Malformed = fail.Fetch fault.Malformed
failure_by told.TooLong = fail.Fetch fault.TooLong
failure_by (told.Status status) = fail.Fetch (fault.Status status)
failure_by told.Memory = fail.Fetch fault.Memory

-- what was sent to the origin on a connection, what came from it, and how often its end was told, where these are known
pub record Use : Type 0 where
  pub sent : Option (List ℕ)
  pub came : Option (List ℕ)
  pub ends : Option ℕ

-- on the connection the request was sent, or a front of it, and nothing else
abbrev pub IsTry : Option (List ℕ) → List ℕ → Use → Type 0
IsTry blank request u = (rest : List ℕ) × Moves blank u.sent request rest

-- nothing came on the connection
abbrev pub IsSilent : Option (List ℕ) → Use → Type 0
IsSilent blank u = Appends blank u.came []

-- the value is the content of a reply with status 200 that came on the connection on which the whole request was sent; where
-- the end was not told, it is that whatever comes behind
pub record IsFoundBy (blank : Option (List ℕ)) (request : List ℕ) (u : Use) (value : List ℕ) : Type 0 where
  pub sent : Appends blank u.sent request
  pub text : List ℕ
  pub came : Appends blank u.came text
  pub reply : ∥ IsReply text 200 value ∥₁
  pub stands : u.ends ≡ Some 0 → (later : List ℕ) → ∥ IsReply (text ++ later) 200 value ∥₁
  pub within : length value ≤ MAX_VALUE

-- the uses before a fetch and after it: none more, one, or a second one behind one on which nothing came
pub data Tries (blank : Option (List ℕ)) (request : List ℕ) (us : List Use) : List Use → Type 0 where
  none : Tries blank request us us
  once : (u : Use) → IsTry blank request u → Tries blank request us (u ∷ us)
  twice : (u v : Use) → IsTry blank request u → IsSilent blank u → IsTry blank request v → Tries blank request us (v ∷ u ∷ us)

-- the last use found the value
abbrev pub IsFoundLast : Option (List ℕ) → List ℕ → List Use → List ℕ → Type 0
IsFoundLast blank request [] value = ⊥
IsFoundLast blank request (u ∷ us) value = IsFoundBy blank request u value

-- what a fetch answers
abbrev pub Fetches : Option (List ℕ) → List ℕ → List Use → List Use → Result (Vec ℕ Global) FetchFault → Type 0
Fetches blank request us us' (Ok value) = Tries blank request us us' × IsFoundLast blank request us' value.items
Fetches blank request us us' (Err f) = Tries blank request us us'

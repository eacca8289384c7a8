-- What was done for a value, and what a value is that was found.
use Rattle.std.specs.Prelude.{◌≡◌, ℕ, Bool, false, List, [], ◌∷◌, take, cond, Option, Some, None, Ok}
use Rattle.std.specs.Prelude.{Vec}
use Rattle.std.specs.declared.alloc.Global.{Global}
use Rattle.peer_origin.specs.Fetches.{Use, Fetches}
use Rattle.http1.specs.declared.client.Client.{Client}
use Rattle.peer_http.specs.Receivings.{MayAskAgain}
use Rattle.peer_http.specs.declared.reply.Reply.{Reply}
use Rattle.peer_value.specs.declared.fetching.Silence.{Silence}

-- so much of the request was sent on a connection, this came, and the end was told or not
abbrev pub use_by : List ℕ → ℕ → List ℕ → Bool → Use
use_by request sent came ended = record { sent = Some (take sent request); came = Some came; ends = Some (cond ended 1 0) }

-- the use of the connection of a first try
abbrev pub first_uses : List ℕ → Option Silence → List Use
first_uses request None = []
first_uses request (Some s) = use_by request s.sent [] s.ended ∷ []

-- the uses of all connections, the last one first
abbrev pub uses_by : List ℕ → ℕ → List ℕ → Bool → Option Silence → List Use
uses_by request sent came ended first = use_by request sent came ended ∷ first_uses request first

-- the value was found as a fetch finds it: two tries at most, the second behind a silent one, and the last one's connection has
-- the whole request, and behind it a whole reply with status 200 whose content the value is
abbrev pub IsFoundIn : List ℕ → ℕ → List ℕ → Bool → Option Silence → Vec ℕ Global → Type 0
IsFoundIn request sent came ended first value = Fetches (Some []) request [] (uses_by request sent came ended first) (Ok value)

-- another request may follow on a connection: its client takes one, and all that came is one reply
abbrev pub IsFreeBehind : List ℕ → Client → Type 0
IsFreeBehind came c = (r : Reply) × MayAskAgain came c r

-- behind the one use of a connection on which nothing came, there is one on which nothing was done yet
abbrev pub GoesOnAnew : List ℕ → List Use → List Use → Type 0
GoesOnAnew request us us' = (u : Use) × (us ≡ u ∷ []) × (u.came ≡ Some []) × (us' ≡ use_by request 0 [] false ∷ us)

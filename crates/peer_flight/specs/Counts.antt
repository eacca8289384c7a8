-- At how many places of a world a flight stands.
use Rattle.std.specs.Prelude.{ℕ, ◌==◌, cond, List}
use Rattle.std.specs.List.{sum_by}
use Rattle.peer_flight.specs.World.{Flight, Connection, Hand, Empty, WithTicket, WithRight, Worker, Idle, Filling, Landing}

-- 1 where both are the same number
abbrev pub same : ℕ → ℕ → ℕ
same m k = cond (m == k) 1 0

-- the rights of flight m in a reader's hand
abbrev pub rights_in : ℕ → Hand → ℕ
rights_in m Empty = 0
rights_in m (WithTicket t) = 0
rights_in m (WithRight t k) = same m k

-- the rights of flight m in a worker's hands
abbrev pub filling : ℕ → Worker → ℕ
filling m Idle = 0
filling m (Filling k) = same m k
filling m (Landing k) = 0

-- whether a worker has flight m in its hands with its right spent
abbrev pub landing : ℕ → Worker → ℕ
landing m Idle = 0
landing m (Filling k) = 0
landing m (Landing k) = same m k

-- how many readers' hands hold the right of flight m
abbrev pub hands : ℕ → List Connection → ℕ
hands m = sum_by (λ c. rights_in m c.hand)

-- how often flight m stands in the job list
abbrev pub jobs : ℕ → List ℕ → ℕ
jobs m = sum_by (same m)

-- how many workers hold the right of flight m
abbrev pub fillers : ℕ → List Worker → ℕ
fillers m = sum_by (filling m)

-- how many workers hold flight m with its right spent
abbrev pub landers : ℕ → List Worker → ℕ
landers m = sum_by (landing m)

-- 1 where the flight's right is spent
abbrev pub spent : Flight → ℕ
spent f = cond f.spent 1 0

use Rattle.std.specs.Prelude.{◌≢◌, ◌<◌, ℕ}
use Rattle.peer_value.specs.Shares.{host_at}
use Rattle.peer_value.proofs.shares.first_there.Given as goal

abbrev pub invariant-loop-first : goal.invariant-loop-first
invariant-loop-first l = (m : ℕ) → m < l.first → host_at l.endpoints m ≢ host_at l.endpoints l.number

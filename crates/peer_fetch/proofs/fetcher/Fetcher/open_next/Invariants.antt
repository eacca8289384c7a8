use Rattle.std.proofs.Common.{◌≡◌}
use Rattle.peer_fetch.proofs.fetcher.Fetcher.open_next.Given as goal

abbrev pub invariant-loop-left : goal.invariant-loop-left
invariant-loop-left g l = l.self.connections ≡ l.fn.self.connections

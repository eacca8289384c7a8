use Rattle.peer_fill.specs.Plans.{HaveShards}
use Rattle.peer_fill.proofs.caching.Caching.last_places.Given as goal

abbrev pub invariant-loop-number : goal.invariant-loop-number
invariant-loop-number l = HaveShards l.self.plan l.self.own.now l.number l.places

use Rattle.std.specs.Prelude.{◌≡◌}
use Rattle.peer_fill.specs.Pools.{source_of}
use Rattle.refused.specs.Lent.{AreOf}
use Rattle.refused.proofs.talking.Talking.go_on.Given as goal

abbrev pub invariant-loop : goal.invariant-loop
invariant-loop g l = record {
  names : l.self.exchange.names ≡ source_of l.lent.pool.now;
  seats : AreOf l.lent.pool.now l.seats;
}

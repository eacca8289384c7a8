use Rattle.std.specs.Prelude.{◌≡◌}
use Rattle.crossbeam_queue.specs.Passes.{view, IsPassOf}
use Rattle.peer_fill.proofs.pool.Pool.next_job.Given as goal

abbrev pub invariant-loop : goal.invariant-loop
invariant-loop g l = record {
  own : IsPassOf l.self.jobs l.pass;
  same : view l.pass ≡ view l.fn.pass;
}

use Rattle.std.specs.Prelude.{Some}
use Rattle.peer_fill.specs.Pools.{source_of}
use Rattle.peer_clients.proofs.running.run_loop.Given as goal

abbrev pub ghosts-run_known : goal.ghosts-run_known
ghosts-run_known g a = record { source = Some (source_of a.pool.now) }

use Rattle.std.proofs.Common.{subst, IfSome}
use Rattle.peer_fill.specs.Pools.{IsFillSeatOf}
use Rattle.stream_tests.proofs.tests.refusing.serve_and_ask.Goals as goal

pub beside_worker-requires-clause-fill : goal.beside_worker-requires-clause-fill
beside_worker-requires-clause-fill g c κs within =
    subst (λ o. IfSome o (IsFillSeatOf c.args.pool.now)) c.expect-fill.ensures c.pop_seat.ensures.seat

use Rattle.peer_fill.specs.Pools.{IsSeatOf}
use Rattle.peer_fill.proofs.Lasts.{of_last, of_front, sum_last}
use Rattle.peer_fill.proofs.handing.pop_seat.Goals as goal

pub returns-clause-seat : goal.returns-clause-seat
returns-clause-seat g c = of_last (IsSeatOf g.T.Seat.pass_of c.args.pool.now) _ _ _ c.in_ok-seat.ensures.items c.requires

pub returns-clause-rest : goal.returns-clause-rest
returns-clause-rest g c = of_front (IsSeatOf g.T.Seat.pass_of c.args.pool.now) _ _ _ c.in_ok-seat.ensures.items c.requires

pub returns-clause-parts : goal.returns-clause-parts
returns-clause-parts g c = sum_last g.T.Seat.parts_of _ _ _ c.in_ok-seat.ensures.items

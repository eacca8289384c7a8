use Rattle.std.specs.Prelude.{◌≡◌, ◌≤◌, take, sum_by}
use Rattle.peer_fill.proofs.parts.have_all_parts.Given as goal

abbrev pub invariant-loop-seat : goal.invariant-loop-seat
invariant-loop-seat g l = (l.sum ≡ sum_by g.T.Seat.parts_of (take l.seat-index l.seats)) × (l.sum ≤ 16)

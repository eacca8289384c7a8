use Rattle.std.proofs.Common.{◌≡◌, ◌-◌, length}
use Rattle.peer_view.specs.Pieces.{given_of, left_of}
use Rattle.peer_view.proofs.mem_reader.next_left.Given as goal

abbrev pub invariant-loop-at : goal.invariant-loop-at
invariant-loop-at l = record {
  given : given_of l.pieces l.at.index l.at.offset ≡ given_of l.pieces l.fn.from.index l.fn.from.offset;
  left : left_of l.pieces l.at.index l.at.offset ≡ left_of l.pieces l.fn.from.index l.fn.from.offset;
}

abbrev pub decreases-loop-at : goal.decreases-loop-at
decreases-loop-at l = length l.pieces - l.at.index

use Rattle.std.proofs.Common.{◌≡◌, length}
use Rattle.peer_source.proofs.entries.remove_all.Given as goal

abbrev pub invariant-loop-entry : goal.invariant-loop-entry
invariant-loop-entry l = record {
  cap : l.entries.cap ≡ l.fn.entries.cap;
}

abbrev pub decreases-loop-entry : goal.decreases-loop-entry
decreases-loop-entry l = length l.entries.entries

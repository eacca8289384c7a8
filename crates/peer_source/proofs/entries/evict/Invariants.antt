use Rattle.std.proofs.Common.{◌≡◌, length, take, drop}
use Rattle.peer_source.specs.Caches.{bytes_in, fitting}
use Rattle.peer_source.proofs.entries.evict.Given as goal

abbrev pub invariant-loop-others : goal.invariant-loop-others
invariant-loop-others l = record {
  cap : l.entries.cap ≡ l.fn.entries.cap;
  first : take 1 l.entries.entries ≡ take 1 l.fn.entries.entries;
  others : l.others ≡ bytes_in l.each (drop 1 l.entries.entries);
  fits : fitting l.each l.room (drop 1 l.entries.entries) ≡ fitting l.each l.room (drop 1 l.fn.entries.entries);
}

abbrev pub decreases-loop-others : goal.decreases-loop-others
decreases-loop-others l = length l.entries.entries

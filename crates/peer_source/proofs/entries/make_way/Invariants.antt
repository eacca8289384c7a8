use Rattle.std.proofs.Common.{◌≡◌, ◌-◌, ◌≤◌, length, take}
use Rattle.peer_source.specs.Caches.{IsFrontOf, bytes_in, fitting}
use Rattle.peer_source.proofs.entries.make_way.Given as goal

abbrev pub invariant-loop-bytes : goal.invariant-loop-bytes
invariant-loop-bytes l = record {
  front : IsFrontOf l.fn.entries l.entries;
  most : length l.entries.entries ≤ l.entries.cap;
  bytes : l.bytes ≡ bytes_in l.each l.entries.entries;
  fits : fitting l.each l.room (take (l.fn.entries.cap - 1) l.entries.entries)
      ≡ fitting l.each l.room (take (l.fn.entries.cap - 1) l.fn.entries.entries);
}

abbrev pub decreases-loop-bytes : goal.decreases-loop-bytes
decreases-loop-bytes l = length l.entries.entries

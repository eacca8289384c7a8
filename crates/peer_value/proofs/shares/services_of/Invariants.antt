use Rattle.std.specs.Prelude.{◌≡◌, ◌<◌, ℕ, length, slice_get, IsSomeAnd}
use Rattle.peer_value.specs.Shares.{IsFirstThere}
use Rattle.peer_value.proofs.shares.services_of.Given as goal

abbrev pub invariant-loop-number : goal.invariant-loop-number
invariant-loop-number l = record {
  count : length l.services.items ≡ l.number;
  each : (n : ℕ) → n < l.number → IsSomeAnd (slice_get l.services.items n) (IsFirstThere l.endpoints n);
}

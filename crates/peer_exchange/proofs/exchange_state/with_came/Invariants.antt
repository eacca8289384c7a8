use Rattle.std.proofs.Common.{◌≡◌, ℕ, ◌+◌, ◌-◌, ◌^◌, min, take}
use Rattle.peer_exchange.specs.Holdings.{CameForAll}
use Rattle.peer_exchange.proofs.exchange_state.with_came.Given as goal

abbrev pub invariant-loop-i : goal.invariant-loop-i
invariant-loop-i g l = record {
  came : ℕ;
  of : CameForAll (take l.i l.waiting.items) came;
  sum : l.all ≡ min (l.bytes + came) (2 ^ 64 - 1);
}

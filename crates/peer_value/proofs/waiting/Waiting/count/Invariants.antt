use Rattle.std.specs.Prelude.{◌≡◌, ◌-◌, ◌^◌, length, min, take, sum_by}
use Rattle.std.specs.VecDeque.{deque_items}
use Rattle.peer_value.proofs.waiting.Waiting.count.Given as goal

abbrev pub invariant-loop-line : goal.invariant-loop-line
invariant-loop-line g l = l.count ≡ min (sum_by (λ line. length (deque_items line)) (take l.line-index l.self.lines.items)) (2 ^ 64 - 1)

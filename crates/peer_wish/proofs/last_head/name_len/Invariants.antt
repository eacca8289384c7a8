use Rattle.std.proofs.Common.{◌-◌, ◌≤◌, length, take, All}
use Rattle.peer_path.specs.Plains.{IsPlainInName}
use Rattle.peer_wish.proofs.last_head.name_len.Given as goal

abbrev pub invariant-loop-len : goal.invariant-loop-len
invariant-loop-len l = (l.len ≤ length l.bytes) × All IsPlainInName (take l.len l.bytes)

abbrev pub decreases-loop-len : goal.decreases-loop-len
decreases-loop-len l = length l.bytes - l.len

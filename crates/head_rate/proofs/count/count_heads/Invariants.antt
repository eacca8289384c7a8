use Rattle.std.proofs.Common.{◌≡◌, ◌+◌}
use Rattle.head_rate.proofs.count.count_heads.Given as goal

abbrev pub invariant-loop-made : goal.invariant-loop-made
invariant-loop-made g l = g.R.PeerRead.calls l.reader ≡ g.R.PeerRead.calls l.fn.reader + l.made

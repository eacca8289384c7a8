use Rattle.std.proofs.Common.{◌≡◌, ◌≤◌, length, min, arith}
use Rattle.peer_stats.proofs.StartLemmas.{started}
use Rattle.peer_stats.proofs.last.KeyStart.of.Goals as goal

pub returns : goal.returns
returns c =
    let is : c.min-len.result ≡ min 64 (length c.args.key.now) = omega arith in
    let fits : c.min-len.result ≤ length c.args.key.now = omega arith in
    started _ _ c.args.key.now c.min-len.result c.copy_from_slice.ensures.after fits is

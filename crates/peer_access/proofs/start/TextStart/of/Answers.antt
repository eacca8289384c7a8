use Rattle.std.proofs.Common.{◌≡◌, ◌≤◌, length, min, arith}
use Rattle.peer_access.proofs.StartLemmas.{started}
use Rattle.peer_access.proofs.start.TextStart.of.Goals as goal

pub returns : goal.returns
returns c =
    let is : c.min-len.result ≡ min 256 (length c.args.text.now) = omega arith in
    let fits : c.min-len.result ≤ length c.args.text.now = omega arith in
    started _ _ c.args.text.now c.min-len.result c.copy_from_slice.ensures.after fits is

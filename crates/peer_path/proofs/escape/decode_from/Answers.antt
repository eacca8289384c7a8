use Rattle.std.proofs.Common.{sym}
use Rattle.peer_path.proofs.EscapeLemmas.{percent_decode-found}
use Rattle.peer_path.proofs.escape.decode_from.Goals as goal

pub returns : goal.returns
returns c =
    rw (
      c.in_ok-append_to.ensures.ok,
      c.in_ok-extend_from_slice.ensures.items,
      c.in_ok-bytes.ensures.items,
      c.split_at.ensures.front,
      c.percent_decode.ensures.bytes,
      c.split_at.ensures.back,
    )
    (sym (percent_decode-found c.args.path.now c.args.first c.requires))

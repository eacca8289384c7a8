use Rattle.std.proofs.Common.{◌++◌, ap}
use Rattle.peer_origin.proofs.TargetLemmas.{escapes}
use Rattle.peer_origin.proofs.target.target.Goals as goal

pub returns : goal.returns
returns c = rw (
  c.in_ok-extend_from_slice.ensures.items,
  c.as_bytes.ensures.value,
  c.in_ok-append_to.ensures.ok,
  c.new-escaped.ensures.bytes,
  c.percent_encode.ensures.text,
  c.in_ok-target.ensures.items_if_clones_equal,
) (ap (λ x. c.args.prefix.now ++ x) (escapes c.args.key.now))

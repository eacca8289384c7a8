use Rattle.std.proofs.Common.{◌∙◌, take, ◌++◌, length, ap}
use Rattle.peer_head.proofs.BufferLemmas.{fitted-same}
use Rattle.request_tests.proofs.tests.heads.feed.Goals as goal

pub returns : goal.returns
returns c = record {
  held =
      c.filled.ensures.held ∙ ap (λ v. c.args.buf.now.held ++ take (length c.args.bytes.now) v)
      (fitted-same _ _ (c.put.auto.room ∙ ap length c.room.ensures.value)) ∙ ap (λ v. c.args.buf.now.held ++ v) c.put.ensures;
}

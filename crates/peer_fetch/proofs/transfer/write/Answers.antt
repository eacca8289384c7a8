use Rattle.std.proofs.Common.{◌∙◌, sym}
use Rattle.peer_fetch.proofs.TransferLemmas.{sent_on}
use Rattle.peer_fetch.proofs.transfer.write.Goals as goal

pub returns-in-Ok-clause-on : goal.returns-in-Ok-clause-on
returns-in-Ok-clause-on g c =
    let f = c.args.under.now.fetching in
    let new = c.sent.new.self.fetching in (
      sent_on c.args.wire.now.sent.bytes c.write.new.wire.sent.bytes f.request.items new.request.items c.unsent.result.now f.sent new.sent c.in-Ok.n
          c.requires.on.0 c.unsent.ensures.bytes c.in-Ok.ensures.sent c.sent.ensures.sent c.sent.ensures.request,
      c.in-Ok.ensures.came.0 ∙ c.requires.on.1 ∙ sym c.sent.ensures.came,
      c.in-Ok.ensures.came.1 ∙ c.requires.on.2 ∙ sym c.sent.ensures.ended,
    )

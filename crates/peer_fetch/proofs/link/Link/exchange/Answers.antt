use Rattle.std.proofs.Common.{rules, IsTrue}
use Rattle.peer_value.specs.UnderWays.{IsDoneOf}
use Rattle.peer_fetch.proofs.TransferLemmas.{over_by}
use Rattle.peer_fetch.proofs.link.Link.exchange.Goals as goal

pub returns-in-Ok-clause-value : goal.returns-in-Ok-clause-value
returns-in-Ok-clause-value g c =
    let of : IsDoneOf c.args.under c.done.result = search rules in
    (of, λ kept. let keeps : IsTrue c.in-Ok.answer.keeps = search rules in c.done.ensures.free (c.in-Ok.ensures.answer.keeps keeps))

pub invariant_of-self-in-Ok-clause-over : goal.invariant_of-self-in-Ok-clause-over
invariant_of-self-in-Ok-clause-over g c = λ over.
    let f = c.receive.new.under.fetching in
    let keeps : IsTrue c.in-Ok.answer.keeps = search rules in
    over_by c.receive.new.wire f c.in-Ok.answer f.asks c.in-Ok.ensures.on.0 c.in-Ok.ensures.on.1 c.in-Ok.ensures.answer keeps

pub invariant_of-self-in-Err-1 : goal.invariant_of-self-in-Err-1
invariant_of-self-in-Err-1 g c = record {
  own = c.args.self.now.own;
  carried = c.in-Err.ensures.carried;
  tied = search rules;
  over = search rules;
}

use Rattle.std.proofs.Common.{◌≡◌, arith, rules, ap}
use Rattle.std.proofs.lemmas.List.Elements.{All-push}
use Rattle.peer_fill.proofs.Lasts.{sum_last}
use Rattle.crossbeam_queue.specs.Passes.{IsPassOf}
use Rattle.peer_fill.specs.declared.jobs.PassLog.{PassLog}
use Rattle.peer_fill.specs.Counts.{no_asks}
use Rattle.peer_fill.proofs.Ordering.{forks}
use Rattle.peer_fill.proofs.deal.deal_conns.Goals as goal

pub another-one-requires-clause-rule : goal.another-one-requires-clause-rule
another-one-requires-clause-rule g c = forks _ _ 1 (omega (arith, ap (λ (v : PassLog). v.parts) c.loop-i.invariant.has))

pub loop-i-preserved : goal.loop-i-preserved
loop-i-preserved g c =
    let items = c.in_ok-push.ensures.items in
    let i = c.loop-i.invariant in
    let k = c.new.ensures in
    record {
      own = search rules;
      has = rw (c.another-one.ensures.rule.0, i.has);
      share = search rules;
      left = omega arith;
      count = omega (arith, c.in_ok-push.ensures.len, i.count);
      pass = rw items (All-push (λ s. IsPassOf c.args.jobs.now s.pass) _ _ i.pass (rw k.pass c.another-one.ensures.queue.1));
      counts = rw items (All-push (λ s. s.asks ≡ no_asks) _ _ i.counts k.counts);
      parts = omega (arith, sum_last (λ s. s.parts) _ _ _ items, k.parts, i.parts);
    }

use Rattle.std.proofs.Common.{ap, arith, rules, ◌∙◌}
use Rattle.crossbeam_queue.specs.Passes.{IsPassOf}
use Rattle.peer_fill.specs.declared.jobs.PassLog.{PassLog}
use Rattle.peer_fill.specs.Seats.{popped_of}
use Rattle.peer_fill.proofs.Gathering.{next_taken, none_more}
use Rattle.peer_fill.proofs.Lasts.{sum_last, of_front}
use Rattle.peer_fill.proofs.close.gather_fills.Goals as goal

pub loop-seat-preserved : goal.loop-seat-preserved
loop-seat-preserved g c =
    let e = c.in-Some.ensures.items in
    let k = c.add_fill.ensures in
    let i = c.loop-seat.invariant in
    record {
      own = k.pass;
      others = of_front (λ s. IsPassOf c.args.jobs.now s.pass) _ _ _ e i.others;
      parts = omega (arith, k.adds.fill_parts, i.parts, sum_last (λ s. s.parts) _ _ _ e);
      conn_parts = search rules;
      asks = search rules;
      calls = omega (arith, k.adds.fills.calls, i.calls, sum_last (λ s. s.fills.calls) _ _ _ e);
      rehits = omega (arith, k.adds.fills.rehits, i.rehits, sum_last (λ s. s.fills.rehits) _ _ _ e);
      pushed = none_more _ _ _ (ap (λ (y : PassLog). y.pushed) k.adds.pass) c.in-Some.seat.pushed ∙ i.pushed;
      popped = λ w. next_taken popped_of _ _ _ _ _ w _ e (ap (λ (y : PassLog). y.popped) k.adds.pass) (i.popped w);
    }

use Rattle.std.proofs.Common.{ap, arith, rules, ◌∙◌}
use Rattle.crossbeam_queue.specs.Passes.{IsPassOf}
use Rattle.peer_fill.specs.declared.jobs.PassLog.{PassLog}
use Rattle.peer_fill.specs.Seats.{pushed_of}
use Rattle.peer_fill.proofs.Gathering.{first_taken, next_taken, none_more}
use Rattle.peer_fill.proofs.Lasts.{sum_last, of_last, of_front}
use Rattle.peer_fill.proofs.close.gather_conns.Goals as goal

pub loop-seat-init : goal.loop-seat-init
loop-seat-init g c =
    let e = c.in-Some.ensures.items in
    let k = c.of-totals.ensures in
    record {
      own = rw k.pass (of_last (λ s. IsPassOf c.args.jobs.now s.pass) _ _ _ e c.requires.pass);
      others = of_front (λ s. IsPassOf c.args.jobs.now s.pass) _ _ _ e c.requires.pass;
      parts = omega (arith, k.conn_parts, c.requires.all, sum_last (λ s. s.parts) _ _ _ e);
      no_fills = search rules;
      asked = rw k.asks (omega (arith, sum_last (λ s. s.asks.asked) _ _ _ e));
      hits = rw k.asks (omega (arith, sum_last (λ s. s.asks.hits) _ _ _ e));
      led = rw k.asks (omega (arith, sum_last (λ s. s.asks.led) _ _ _ e));
      joined = rw k.asks (omega (arith, sum_last (λ s. s.asks.joined) _ _ _ e));
      strangers = rw k.asks (omega (arith, sum_last (λ s. s.asks.strangers) _ _ _ e));
      pushed = λ w. rw k.pass (first_taken pushed_of _ _ _ e w);
      popped = rw k.pass c.in-Some.first.popped;
    }

pub add_conn-requires-clause-pass : goal.add_conn-requires-clause-pass
add_conn-requires-clause-pass g c = (
  c.loop-seat.invariant.own,
  of_last (λ s. IsPassOf c.args.jobs.now s.pass) _ _ _ c.in-Some-pop.ensures.items
      c.loop-seat.invariant.others,
)

pub loop-seat-preserved : goal.loop-seat-preserved
loop-seat-preserved g c =
    let e = c.in-Some-pop.ensures.items in
    let k = c.add_conn.ensures in
    let i = c.loop-seat.invariant in
    record {
      own = k.pass;
      others = of_front (λ s. IsPassOf c.args.jobs.now s.pass) _ _ _ e i.others;
      parts = omega (arith, k.adds.conn_parts, i.parts, sum_last (λ s. s.parts) _ _ _ e);
      no_fills = search rules;
      asked = omega (arith, k.adds.asks.asked, i.asked, sum_last (λ s. s.asks.asked) _ _ _ e);
      hits = omega (arith, k.adds.asks.hits, i.hits, sum_last (λ s. s.asks.hits) _ _ _ e);
      led = omega (arith, k.adds.asks.led, i.led, sum_last (λ s. s.asks.led) _ _ _ e);
      joined = omega (arith, k.adds.asks.joined, i.joined, sum_last (λ s. s.asks.joined) _ _ _ e);
      strangers = omega (arith, k.adds.asks.strangers, i.strangers, sum_last (λ s. s.asks.strangers) _ _ _ e);
      pushed = λ w. next_taken pushed_of _ _ _ _ _ w _ e (ap (λ (y : PassLog). y.pushed) k.adds.pass) (i.pushed w);
      popped = none_more _ _ _ (ap (λ (y : PassLog). y.popped) k.adds.pass) c.in-Some-pop.seat.popped ∙ i.popped;
    }

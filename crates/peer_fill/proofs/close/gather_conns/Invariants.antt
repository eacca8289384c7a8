use Rattle.std.specs.Prelude.{◌≡◌, ℕ, ◌+◌, [], All, sum_by}
use Rattle.crossbeam_queue.specs.Passes.{view, IsPassOf}
use Rattle.peer_fill.specs.Counts.{no_fills}
use Rattle.peer_fill.specs.Jobs.{weigh}
use Rattle.peer_fill.specs.Seats.{pushed_of}
use Rattle.peer_fill.specs.declared.jobs.Ranked.{Ranked}
use Rattle.peer_fill.proofs.close.gather_conns.Given as goal

abbrev pub invariant-loop-seat : goal.invariant-loop-seat
invariant-loop-seat g l = record {
  own : IsPassOf l.jobs l.totals.pass;
  others : All (λ s. IsPassOf l.jobs s.pass) l.conns.items;
  parts : l.totals.conn_parts + sum_by (λ s. s.parts) l.conns.items ≡ 16;
  no_fills : (l.totals.fill_parts ≡ 0) × (l.totals.fills ≡ no_fills);
  asked : l.totals.asks.asked + sum_by (λ s. s.asks.asked) l.conns.items ≡ sum_by (λ s. s.asks.asked) l.fn.conns.items;
  hits : l.totals.asks.hits + sum_by (λ s. s.asks.hits) l.conns.items ≡ sum_by (λ s. s.asks.hits) l.fn.conns.items;
  led : l.totals.asks.led + sum_by (λ s. s.asks.led) l.conns.items ≡ sum_by (λ s. s.asks.led) l.fn.conns.items;
  joined : l.totals.asks.joined + sum_by (λ s. s.asks.joined) l.conns.items ≡ sum_by (λ s. s.asks.joined) l.fn.conns.items;
  strangers : l.totals.asks.strangers + sum_by (λ s. s.asks.strangers) l.conns.items ≡ sum_by (λ s. s.asks.strangers) l.fn.conns.items;
  pushed : (w : Ranked → ℕ) → weigh w (view l.totals.pass).pushed + sum_by (λ s. weigh w (pushed_of s)) l.conns.items
      ≡ sum_by (λ s. weigh w (pushed_of s)) l.fn.conns.items;
  popped : (view l.totals.pass).popped ≡ [];
}

abbrev pub decreases-loop-seat : goal.decreases-loop-seat
decreases-loop-seat g l = goal.left-loop-seat g l

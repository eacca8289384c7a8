use Rattle.std.specs.Prelude.{◌≡◌, ℕ, ◌+◌, All, sum_by}
use Rattle.crossbeam_queue.specs.Passes.{view, IsPassOf}
use Rattle.peer_fill.specs.Jobs.{weigh}
use Rattle.peer_fill.specs.Seats.{popped_of}
use Rattle.peer_fill.specs.declared.jobs.Ranked.{Ranked}
use Rattle.peer_fill.proofs.close.gather_fills.Given as goal

abbrev pub invariant-loop-seat : goal.invariant-loop-seat
invariant-loop-seat g l = record {
  own : IsPassOf l.jobs l.totals.pass;
  others : All (λ s. IsPassOf l.jobs s.pass) l.fills.items;
  parts : l.totals.fill_parts + sum_by (λ s. s.parts) l.fills.items ≡ 16;
  conn_parts : l.totals.conn_parts ≡ l.fn.totals.conn_parts;
  asks : l.totals.asks ≡ l.fn.totals.asks;
  calls : l.totals.fills.calls + sum_by (λ s. s.fills.calls) l.fills.items ≡ sum_by (λ s. s.fills.calls) l.fn.fills.items;
  rehits : l.totals.fills.rehits + sum_by (λ s. s.fills.rehits) l.fills.items ≡ sum_by (λ s. s.fills.rehits) l.fn.fills.items;
  pushed : (view l.totals.pass).pushed ≡ (view l.fn.totals.pass).pushed;
  popped : (w : Ranked → ℕ) → weigh w (view l.totals.pass).popped + sum_by (λ s. weigh w (popped_of s)) l.fills.items
      ≡ sum_by (λ s. weigh w (popped_of s)) l.fn.fills.items;
}

abbrev pub decreases-loop-seat : goal.decreases-loop-seat
decreases-loop-seat g l = goal.left-loop-seat g l

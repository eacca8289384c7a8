use Rattle.std.specs.Prelude.{◌≡◌, ◌+◌, [], All, sum_by, vec_len}
use Rattle.crossbeam_queue.specs.Passes.{view, IsPassOf}
use Rattle.peer_fill.specs.Counts.{no_fills}
use Rattle.peer_fill.specs.Jobs.{pass_log}
use Rattle.peer_fill.proofs.deal.deal_fills.Given as goal

abbrev pub invariant-loop-i : goal.invariant-loop-i
invariant-loop-i g l = record {
  own : IsPassOf l.jobs l.pass;
  has : view l.pass ≡ pass_log l.left [] [];
  left : l.left + l._i ≡ 17;
  count : vec_len l.seats + 1 ≡ l._i;
  pass : All (λ s. IsPassOf l.jobs s.pass) l.seats.items;
  counts : All (λ s. s.fills ≡ no_fills) l.seats.items;
  parts : sum_by (λ s. s.parts) l.seats.items + l.left ≡ 16;
}

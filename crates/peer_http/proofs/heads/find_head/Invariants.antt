use Rattle.std.proofs.Common.{ℕ, List}
use Rattle.peer_http.specs.Requests.{Awaits}
use Rattle.peer_http.specs.Replies.{Interims}
use Rattle.peer_http.proofs.heads.find_head.Given as goal

abbrev pub invariant-loop-head : goal.invariant-loop-head
invariant-loop-head l = record {
  awaits : Awaits l.client;
  keeps : (came : List ℕ) → Interims came l.fn.intake → Interims came l.intake;
}

use Rattle.std.proofs.Common.{false, ◌≡◌, ◌≤◌}
use Rattle.std.specs.VecDeque.{deque_len}
use Rattle.peer_fill.specs.Claiming.{KeepsSeat}
use Rattle.peer_fill.specs.Seats.{asks_of}
use Rattle.peer_wish.specs.Allowed.{allows}
use Rattle.peer_exchange.specs.Asking.{AddsTickets}
use Rattle.peer_exchange.specs.Intakes.{JudgesOn}
use Rattle.peer_exchange.specs.ExchangeStates.{Keeps}
use Rattle.peer_exchange.proofs.ExchangeLemmas.{went_well}
use Rattle.peer_exchange.proofs.exchange_state.ExchangeState.ask_held.Given as goal

abbrev pub invariant-loop : goal.invariant-loop
invariant-loop g l = record {
  seat : KeepsSeat l.pool l.fn.seat l.seat;
  names : l.names ≡ l.fn.names;
  keeps : Keeps (g.S.Source.number_of l.fn.names) (allows g.S.Source.allowed) l.fn.self l.self;
  tickets : AddsTickets l.fn.self l.self (asks_of l.fn.seat) (asks_of l.seat) went_well;
  stage : JudgesOn l.fn.self.intake.stage l.self.intake.stage;
  now : l.self.waits_for_job ≡ false;
  window : l.self.window.tickets ≡ l.fn.self.window.tickets;
  many : l.counter ≤ deque_len l.self.waiting;
}

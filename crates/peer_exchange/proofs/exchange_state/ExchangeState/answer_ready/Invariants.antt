use Rattle.std.proofs.Common.{◌≡◌, ℕ, List, Option}
use Rattle.std.specs.VecDeque.{deque_len}
use Rattle.peer_fill.specs.Claiming.{KeepsSeat}
use Rattle.peer_fill.specs.Seats.{asks_of}
use Rattle.peer_wish.specs.Allowed.{allows}
use Rattle.peer_exchange.specs.AnsweringReady.{AnswersReady}
use Rattle.peer_exchange.specs.ExchangeStates.{Keeps}
use Rattle.peer_exchange.proofs.ExchangeLemmas.{went_well}
use Rattle.peer_exchange.proofs.exchange_state.ExchangeState.answer_ready.Given as goal

abbrev pub invariant-loop-why : goal.invariant-loop-why
invariant-loop-why g l = record {
  seat : KeepsSeat l.pool l.fn.seat l.seat;
  keeps : (numbers : List ℕ → Option ℕ) → Keeps numbers (allows g.S.Source.allowed) l.fn.self l.self;
  answers : AnswersReady l.fn.self l.self (asks_of l.fn.seat) (asks_of l.seat) went_well;
  stage : l.self.intake.stage ≡ l.fn.self.intake.stage;
}

abbrev pub decreases-loop-why : goal.decreases-loop-why
decreases-loop-why g l = deque_len l.self.waiting

use Rattle.peer_exchange.proofs.exchange_state.ExchangeState.note_turn.Goals as goal

pub returns-clause-keeps : goal.returns-clause-keeps
returns-clause-keeps g c numbers = record {
  keeps = λ came sent h. record {
    answered = h.answered;
    judged = h.judged;
    replies = h.replies;
    each = h.each;
    put = h.put;
    waiting = h.waiting;
    unsent = h.unsent;
  };
}

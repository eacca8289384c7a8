use Rattle.std.proofs.Common.{rules}
use Rattle.peer_exchange.proofs.exchange_state.ExchangeState.has_much_output.Goals as goal

pub returns : goal.returns
returns g c = search rules

use Rattle.std.proofs.Common.{rules}
use Rattle.peer_exchange.proofs.exchange_state.ExchangeState.held.Goals as goal

pub returns : goal.returns
returns g c = search rules

use Rattle.std.proofs.Common.{rules}
use Rattle.peer_exchange.proofs.exchange_state.ExchangeState.receive.Goals as goal

pub returns-in-Ok-clause-upholds : goal.returns-in-Ok-clause-upholds
returns-in-Ok-clause-upholds g c = search rules

pub returns-in-Ok-clause-goes_on : goal.returns-in-Ok-clause-goes_on
returns-in-Ok-clause-goes_on g c = search rules

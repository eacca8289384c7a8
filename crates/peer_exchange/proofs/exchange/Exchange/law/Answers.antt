use mathlib.Core.Logic.{∥∥₁_map}
use Rattle.peer_exchange.proofs.exchange.Exchange.law.Goals as goal

pub returns-clause-sent : goal.returns-clause-sent
returns-clause-sent g c = ∥∥₁_map c.args.self.now.upholds (c.law.ensures.sent c.args.self.now.came.bytes c.args.self.now.sent.bytes)

pub returns-clause-little : goal.returns-clause-little
returns-clause-little g c = ∥∥₁_map c.args.self.now.upholds (c.law.ensures.little c.args.self.now.came.bytes c.args.self.now.sent.bytes)

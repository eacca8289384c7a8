use mathlib.Core.Logic.{∥∥₁_map}
use Rattle.peer_exchange.proofs.exchange.Exchange.ended.Goals as goal

pub returns-clause-ends : goal.returns-clause-ends
returns-clause-ends g c = ∥∥₁_map c.args.self.now.upholds (c.ended.ensures.ends (g.S.Source.number_of c.args.self.now.names) c.args.self.now.came.bytes c.args.self.now.sent.bytes)

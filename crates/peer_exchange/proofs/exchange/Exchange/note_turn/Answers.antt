use mathlib.Core.Logic.{∥∥₁_map}
use Rattle.peer_exchange.proofs.exchange.Exchange.note_turn.Goals as goal

pub invariant_of-self : goal.invariant_of-self
invariant_of-self g c = record { upholds = ∥∥₁_map c.args.self.now.upholds ((c.note_turn.ensures.keeps (g.S.Source.number_of c.args.self.now.names)).keeps c.args.self.now.came.bytes c.args.self.now.sent.bytes) }

use mathlib.Core.Logic.{∥∥₁_map}
use Rattle.std.proofs.Common.{[], sym, subst}
use Rattle.peer_wish.specs.Allowed.{allows}
use Rattle.peer_exchange.specs.ExchangeStates.{Upholds}
use Rattle.peer_exchange.proofs.exchange.Exchange.ask_held.Goals as goal

pub invariant_of-self : goal.invariant_of-self
invariant_of-self g c =
    let e = c.args.self.now in
    record {
      upholds = ∥∥₁_map e.upholds (λ h.
          subst (λ s. Upholds (g.S.Source.number_of s) (allows g.S.Source.allowed) e.came.bytes e.sent.bytes [] c.ask_held.new.self)
          (sym c.ask_held.ensures.names) (c.ask_held.ensures.keeps.keeps e.came.bytes e.sent.bytes h));
    }

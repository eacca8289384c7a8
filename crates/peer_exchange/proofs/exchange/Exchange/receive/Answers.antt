use mathlib.Core.Logic.{∥∥₁_map}
use Rattle.std.proofs.Common.{◌≡◌, [], ◌++◌, sym, subst, take}
use Rattle.peer_wish.specs.Allowed.{allows}
use Rattle.peer_exchange.specs.ExchangeStates.{Upholds}
use Rattle.peer_exchange.proofs.exchange.Exchange.receive.Goals as goal

pub invariant_of-self : goal.invariant_of-self
invariant_of-self g c =
    let e = c.args.self.now in
    record { upholds = ∥∥₁_map e.upholds ((c.in_err-n.ensures.refused (g.S.Source.number_of e.names)).keeps e.came.bytes e.sent.bytes) }

pub invariant_of-self-2 : goal.invariant_of-self-2
invariant_of-self-2 g c =
    let e = c.args.self.now in
    let numbers = g.S.Source.number_of e.names in
    let n = c.in_ok-n.n in
    let same : c.and-came.result.bytes ≡ e.came.bytes ++ take n c.args.bytes.now = c.and-came.ensures in
    record { upholds = ∥∥₁_map e.upholds (λ h. subst (λ s. Upholds numbers (allows g.S.Source.allowed) s e.sent.bytes [] c.receive.new.self) (sym same) (c.in_ok-n.ensures.upholds numbers e.came.bytes e.sent.bytes h)) }

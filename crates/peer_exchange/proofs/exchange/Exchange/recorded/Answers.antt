use Rattle.std.proofs.Common.{[], sym, subst}
use Rattle.peer_wish.specs.Allowed.{allows}
use Rattle.peer_exchange.specs.ExchangeStates.{Upholds}
use Rattle.peer_exchange.proofs.exchange.Exchange.recorded.Goals as goal

pub invariant_of-result : goal.invariant_of-result
invariant_of-result g c =
    let numbers = g.S.Source.number_of c.new.result in
    let under = allows g.S.Source.allowed in
    let h = c.new-2.ensures.upholds numbers in
    let came = subst (λ s. Upholds numbers under s [] [] c.new-2.result) (sym c.none.ensures) h in
    record { upholds = ∣ subst (λ s. Upholds numbers under c.none.result.bytes s [] c.new-2.result) (sym c.none-2.ensures) came ∣₁ }

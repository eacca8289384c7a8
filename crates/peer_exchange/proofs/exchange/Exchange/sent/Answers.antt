use mathlib.Core.Logic.{∥∥₁_map}
use Rattle.std.proofs.Common.{◌≡◌, ◌∙◌, [], ◌++◌, List, ℕ, ap, sym, subst, take}
use Rattle.peer_wish.specs.Allowed.{allows}
use Rattle.peer_exchange.specs.ExchangeStates.{Upholds, lent, lent_behind, unsent}
use Rattle.peer_outbox.proofs.OutboxLemmas.{take_both}
use Rattle.peer_exchange.proofs.exchange.Exchange.sent.Goals as goal

pub invariant_of-self : goal.invariant_of-self
invariant_of-self g c =
    let e = c.args.self.now in
    let n = c.args.n in
    let numbers = g.S.Source.number_of e.names in
    let more : List ℕ = take n (unsent e.state) in
    let both = take_both n (lent e.state) (lent_behind e.state) (unsent e.state) c.output_behind-behind.ensures.begins c.requires in
    let lent_both = ap (λ v. take n (v ++ c.output_behind-behind.result.now)) c.output-output.ensures.lent ∙ ap (λ v. take n (lent e.state ++ v)) c.output_behind-behind.ensures.lent in
    let same : c.and_first-sent.result.bytes ≡ e.sent.bytes ++ more = c.and_first-sent.ensures ∙ ap (λ v. e.sent.bytes ++ v) (lent_both ∙ both) in
    record { upholds = ∥∥₁_map e.upholds (λ h. subst (λ s. Upholds numbers (allows g.S.Source.allowed) e.came.bytes s [] c.sent.new.self) (sym same) (c.sent.ensures.upholds numbers e.came.bytes e.sent.bytes h)) }

pub returns-clause-sent : goal.returns-clause-sent
returns-clause-sent g c =
    let e = c.args.self.now in
    let n = c.args.n in
    let both = take_both n (lent e.state) (lent_behind e.state) (unsent e.state) c.output_behind-behind.ensures.begins c.requires in
    let lent_both = ap (λ v. take n (v ++ c.output_behind-behind.result.now)) c.output-output.ensures.lent ∙ ap (λ v. take n (lent e.state ++ v)) c.output_behind-behind.ensures.lent in
    c.and_first-sent.ensures ∙ ap (λ v. e.sent.bytes ++ v) (lent_both ∙ both)

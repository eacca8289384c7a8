use mathlib.Core.Logic.{∥∥₁_map}
use Rattle.std.proofs.Common.{sym, subst, subst₂}
use Rattle.peer_http.specs.Receivings.{IsStanding}
use Rattle.peer_http.proofs.ReceivingLemmas.{alone_now, asks_again}
use Rattle.peer_http.proofs.receiving.Receiving.read_content.Goals as goal

pub returns-in-Ok-true-clause-reply : goal.returns-in-Ok-true-clause-reply
returns-in-Ok-true-clause-reply c =
    let given = c.give.ensures in
    let read = rw c.in-Ok-true.field-0-test at c.in-Ok-true.ensures.reads in
    ∥∥₁_map read (λ h. subst (λ t. IsStanding t c.give.result.status c.give.result.value.items) (sym given.came)
    (subst₂ (IsStanding _) (sym given.status) (sym given.value) (λ later. (h later).0.0)))

pub returns-in-Ok-true-clause-keeps : goal.returns-in-Ok-true-clause-keeps
returns-in-Ok-true-clause-keeps c =
    let given = c.give.ensures in
    let read = rw c.in-Ok-true.field-0-test at c.in-Ok-true.ensures.reads in
    asks_again _ _ _ _ _ _ _ c.give.result (sym given.came) given.client given.status given.value given.keeps (∥∥₁_map read (alone_now _ _ _ _ _))

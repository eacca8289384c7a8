use mathlib.Core.Logic.{∥∥₁_map}
use Rattle.std.proofs.Common.{Ok, subst}
use Rattle.peer_http.specs.Receivings.{TakesContent}
use Rattle.peer_http.proofs.ReceivingLemmas.{waits_in, whole, whole_at_end}
use Rattle.peer_http.proofs.receiving.Receiving.read_body.Goals as goal

pub invariant_of-self-in-Ok-false-clause-reads : goal.invariant_of-self-in-Ok-false-clause-reads
invariant_of-self-in-Ok-false-clause-reads c =
    let r = c.args.self.now in
    let new = c.take_content-taken.new in
    let taken = subst (λ x. TakesContent r.client new.client r.intake new.intake r.value.items new.value.items (Ok x)) c.in-Ok-false.field-0-test c.in-Ok-false.ensures.taken in
    ∥∥₁_map r.reads (λ h. waits_in r.came.bytes r.stage c.args.status r.client new.client r.intake new.intake r.value.items new.value.items c.requires h taken)

pub returns-in-Ok-false-clause-reads : goal.returns-in-Ok-false-clause-reads
returns-in-Ok-false-clause-reads c =
    let r = c.args.self.now in
    let new = c.take_content-taken.new in
    let taken = subst (λ x. TakesContent r.client new.client r.intake new.intake r.value.items new.value.items (Ok x)) c.in-Ok-false.field-0-test c.in-Ok-false.ensures.taken in
    ∥∥₁_map r.reads (λ h. whole_at_end r.came.bytes r.stage c.args.status r.client new.client r.intake new.intake r.value.items new.value.items c.requires h taken)

pub returns-in-Ok-true-clause-reads : goal.returns-in-Ok-true-clause-reads
returns-in-Ok-true-clause-reads c =
    let r = c.args.self.now in
    let new = c.take_content-taken.new in
    let taken = subst (λ x. TakesContent r.client new.client r.intake new.intake r.value.items new.value.items (Ok x)) c.in-Ok-true.field-0-test c.in-Ok-true.ensures.taken in
    ∥∥₁_map r.reads (λ h. whole r.came.bytes r.stage c.args.status r.client new.client r.intake new.intake r.value.items new.value.items c.requires h taken)

use mathlib.Core.Logic.{∥∥₁_map}
use Rattle.std.proofs.Common.{Ok, subst}
use Rattle.peer_http.specs.Receivings.{FindsHead}
use Rattle.peer_http.proofs.ReceivingLemmas.{begins_at, head_at, head_in, told_of, waits_on}
use Rattle.peer_http.proofs.receiving.Receiving.read_head.Goals as goal

pub invariant_of-self-clause-reads : goal.invariant_of-self-clause-reads
invariant_of-self-clause-reads c =
    let r = c.args.self.now in
    let found = subst (λ x. FindsHead c.find_head.new.client r.intake c.find_head.new.intake (Ok x)) c.in-Ok-None.field-0-is c.in-Ok-None.ensures in
    ∥∥₁_map r.reads (λ h. waits_on r.came.bytes r.stage r.client c.find_head.new.client r.intake c.find_head.new.intake r.value.items c.in-Head.is found h)

pub invariant_of-self-in-Ok-clause-reads : goal.invariant_of-self-in-Ok-clause-reads
invariant_of-self-in-Ok-clause-reads c =
    let r = c.args.self.now in
    let found = subst (λ x. FindsHead c.find_head.new.client r.intake c.find_head.new.intake (Ok x)) c.in-Ok-Some.field-0-is c.in-Ok-Some.ensures in
    ∥∥₁_map r.reads (λ h. begins_at r.came.bytes r.stage r.client c.find_head.new.client c.in-Ok-Some.status r.intake c.find_head.new.intake r.value.items c.in-Ok.value.items c.in-Head.is found c.in-Ok.ensures h)

pub invariant_of-self-in-Ok-clause-head : goal.invariant_of-self-in-Ok-clause-head
invariant_of-self-in-Ok-clause-head c =
    let r = c.args.self.now in
    let found = subst (λ x. FindsHead c.find_head.new.client r.intake c.find_head.new.intake (Ok x)) c.in-Ok-Some.field-0-is c.in-Ok-Some.ensures in
    let head = ∥∥₁_map r.reads (head_at r.came.bytes r.stage r.client c.find_head.new.client c.in-Ok-Some.status r.intake c.find_head.new.intake r.value.items c.in-Head.is found) in
    λ s is. head_in r.came.bytes c.in-Ok-Some.status s head is

pub returns-in-Err-room_for-clause-told : goal.returns-in-Err-room_for-clause-told
returns-in-Err-room_for-clause-told c =
    let r = c.args.self.now in
    let found = subst (λ x. FindsHead c.find_head.new.client r.intake c.find_head.new.intake (Ok x)) c.in-Ok-Some.field-0-is c.in-Ok-Some.ensures in
    let head = ∥∥₁_map r.reads (head_at r.came.bytes r.stage r.client c.find_head.new.client c.in-Ok-Some.status r.intake c.find_head.new.intake r.value.items c.in-Head.is found) in
    told_of r.came.bytes c.in-Ok-Some.status c.content_fault.result head c.content_fault.ensures.status

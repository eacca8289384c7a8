use mathlib.Core.Logic.{∥∥₁_map}
use Rattle.std.proofs.Common.{rules, subst, subst₂, sym}
use Rattle.peer_http.specs.Receivings.{IsReadTo}
use Rattle.peer_http.specs.Replies.{HasHead}
use Rattle.peer_http.proofs.ReceivingLemmas.{comes, head_append, silence_kept}
use Rattle.peer_http.proofs.receiving.Receiving.push.Goals as goal

pub invariant_of-self-clause-reads : goal.invariant_of-self-clause-reads
invariant_of-self-clause-reads c =
    let r = c.args.self.now in
    ∥∥₁_map r.reads (λ h. subst₂ (λ t u. IsReadTo t r.stage r.client u r.value.items) (sym c.and-self.ensures) (sym c.in-Ok.ensures)
    (comes r.came.bytes c.args.bytes.now r.stage r.client r.intake r.value.items h))

pub invariant_of-self-clause-head : goal.invariant_of-self-clause-head
invariant_of-self-clause-head c =
    let r = c.args.self.now in
    λ s is. ∥∥₁_map (r.head s is) (λ h. subst (λ t. HasHead t s) (sym c.and-self.ensures) (head_append r.came.bytes c.args.bytes.now s h))

pub invariant_of-self-clause-silence : goal.invariant_of-self-clause-silence
invariant_of-self-clause-silence c =
    let r = c.args.self.now in
    silence_kept r.silent c.is_empty.result r.came.bytes c.args.bytes.now c.and-self.result.bytes r.silence c.and-self.ensures c.is_empty.ensures

pub invariant_of-self-in-Err-clause-silence : goal.invariant_of-self-in-Err-clause-silence
invariant_of-self-in-Err-clause-silence c =
    let r = c.args.self.now in
    silence_kept r.silent c.is_empty.result r.came.bytes c.args.bytes.now c.and-self.result.bytes r.silence c.and-self.ensures c.is_empty.ensures

pub returns-in-Err-clause-silent : goal.returns-in-Err-clause-silent
returns-in-Err-clause-silent c = search rules

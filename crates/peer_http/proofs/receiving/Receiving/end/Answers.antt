use mathlib.Core.Logic.{∥∥₁_map}
use Rattle.std.proofs.Common.{rules, subst, subst₂, sym}
use Rattle.peer_http.specs.Replies.{EndsHere, IsReply}
use Rattle.peer_http.proofs.ReceivingLemmas.{alone_now, asks_again, stands_now}
use Rattle.peer_http.proofs.receiving.Receiving.end.Goals as goal

pub returns-in-Ok-true-clause-reply : goal.returns-in-Ok-true-clause-reply
returns-in-Ok-true-clause-reply c =
    let given = c.give.ensures in
    let read = rw c.in-Ok-true.field-0-test at c.in-Ok-true.ensures.reads in
    ∥∥₁_map read (λ h. subst (λ t. IsReply t c.give.result.status c.give.result.value.items) c.read_body-body.ensures.came
    (subst₂ (IsReply _) (sym given.status) (sym given.value) (stands_now _ _ _ (λ later. (h later).0.0))))

pub returns-in-Ok-false-clause-reply : goal.returns-in-Ok-false-clause-reply
returns-in-Ok-false-clause-reply c =
    let given = c.give-in-Ok-false.ensures in
    let read = rw c.in-Ok-false.field-0-test at c.in-Ok-false.ensures.reads in
    let closes = subst (λ x. EndsHere x c.read_body-body.new.self.client c.ends_here.new.client) c.if-ends_here.true c.ends_here.ensures in
    ∥∥₁_map read (λ h. subst (λ t. IsReply t c.give-in-Ok-false.result.status c.give-in-Ok-false.result.value.items) c.read_body-body.ensures.came
    (subst₂ (IsReply _) (sym given.status) (sym given.value) (h closes.0).0))

pub returns-in-Ok-true-clause-keeps : goal.returns-in-Ok-true-clause-keeps
returns-in-Ok-true-clause-keeps c =
    let given = c.give.ensures in
    let read = rw c.in-Ok-true.field-0-test at c.in-Ok-true.ensures.reads in
    asks_again _ _ _ _ _ _ _ c.give.result c.read_body-body.ensures.came given.client given.status given.value given.keeps (∥∥₁_map read (alone_now _ _ _ _ _))

pub returns-in-Ok-false-clause-keeps : goal.returns-in-Ok-false-clause-keeps
returns-in-Ok-false-clause-keeps c =
    let given = c.give-in-Ok-false.ensures in
    let read = rw c.in-Ok-false.field-0-test at c.in-Ok-false.ensures.reads in
    let closes = subst (λ x. EndsHere x c.read_body-body.new.self.client c.ends_here.new.client) c.if-ends_here.true c.ends_here.ensures in
    asks_again _ _ _ _ _ _ _ c.give-in-Ok-false.result c.read_body-body.ensures.came given.client given.status given.value given.keeps (∥∥₁_map read (λ h none. (h closes.0, λ idle. absurd (closes.1 idle))))

pub returns-in-Ok-false-2-clause-reply : goal.returns-in-Ok-false-2-clause-reply
returns-in-Ok-false-2-clause-reply c = search rules

pub returns-in-Ok-false-2-clause-keeps : goal.returns-in-Ok-false-2-clause-keeps
returns-in-Ok-false-2-clause-keeps c = search rules

pub returns-in_default : goal.returns-in_default
returns-in_default c = search rules

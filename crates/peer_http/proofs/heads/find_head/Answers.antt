use Rattle.std.proofs.Common.{subst, sym, Ok}
use Rattle.peer_http.specs.Replies.{FindsNext, Interims, more}
use Rattle.peer_http.proofs.ReceivingLemmas.{begins, has_head}
use Rattle.peer_http.proofs.heads.find_head.Goals as goal

pub loop-head-init : goal.loop-head-init
loop-head-init c = record { awaits = c.requires; keeps = λ came h. h }

pub loop-head-preserved : goal.loop-head-preserved
loop-head-preserved c =
    let found = subst (λ x. FindsNext c.next_head.new.client c.loop-head.intake c.next_head.new.intake (Ok x)) c.in-Ok-Interim.field-0-is c.in-Ok-Interim.ensures in
    let t = found.1 in
    record {
      awaits = found.0;
      keeps = λ came h. more c.loop-head.intake t.head t.framing c.next_head.new.intake (c.loop-head.invariant.keeps came h) t.accepts t.interim;
    }

pub returns-in-Ok-Final : goal.returns-in-Ok-Final
returns-in-Ok-Final c =
    let found = subst (λ x. FindsNext c.next_head.new.client c.loop-head.intake c.next_head.new.intake (Ok x)) c.in-Ok-Final.field-0-is c.in-Ok-Final.ensures in
    λ came h. let is = c.loop-head.invariant.keeps came h in (begins came _ _ _ _ is found, has_head came _ _ _ _ is found)

pub returns-in-Ok-Nothing : goal.returns-in-Ok-Nothing
returns-in-Ok-Nothing c =
    let found = subst (λ x. FindsNext c.next_head.new.client c.loop-head.intake c.next_head.new.intake (Ok x)) c.in-Ok-Nothing.field-0-is c.in-Ok-Nothing.ensures in
    (found.0, λ came h. subst (Interims came) (sym found.1) (c.loop-head.invariant.keeps came h))

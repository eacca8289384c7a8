use Rattle.std.proofs.Common.{◌≡◌, ◌∙◌, ◌<◌, ◌∷◌, [], ◌++◌, ◌+◌, length, drop, sym, ap, subst, arith, length-append}
use Rattle.peer_reply.specs.Texts.{joined}
use Rattle.peer_reply.specs.Joins.{join}
use Rattle.peer_outbox.specs.Outboxes.{StartsIn}
use Rattle.peer_outbox.proofs.OutboxLemmas.{lend_two, lend_length, starts_more}
use Rattle.peer_outbox.proofs.outbox.Outbox.lend.Goals as goal

pub invariant_of-self : goal.invariant_of-self
invariant_of-self c =
    let i = c.self.inside in
    let new = c.push_pieces.new in
    let head = joined c.args.parts.now in
    let pieces = c.in-Ok.ensures.pieces in
    let some : 0 < length (i.last ++ head) = omega (arith, c.requires.parts, length-append i.last head) in
    let all : length (join new.pieces.items ++ new.last) ≡ length (join i.pieces.items ++ i.last) + (length head + length c.args.value.now) =
    ap (λ v. length (join v ++ new.last)) pieces ∙ ap (λ v. length (join (i.pieces.items ++ (i.last ++ head) ∷ c.args.value.now ∷ []) ++ v)) c.in-Ok.ensures.empty ∙ lend_length i.pieces.items i.last head c.args.value.now in
    (subst (λ v. StartsIn v i.start) (sym pieces) (starts_more i.pieces.items i.start (i.last ++ head) c.args.value.now some c.requires.value c.self.invariant.0), omega (arith, all, c.self.invariant.1, c.in-Some.ensures, c.in-Some-checked_add.ensures, c.len.ensures))

pub returns-in-Ok-clause-put : goal.returns-in-Ok-clause-put
returns-in-Ok-clause-put c =
    let i = c.self.inside in
    let new = c.push_pieces.new in
    let head = joined c.args.parts.now in
    let value = c.args.value.now in
    ap (λ v. drop i.start (join v ++ new.last)) c.in-Ok.ensures.pieces
    ∙ ap (λ v. drop i.start (join (i.pieces.items ++ (i.last ++ head) ∷ value ∷ []) ++ v)) c.in-Ok.ensures.empty
    ∙ lend_two i.pieces.items i.start i.last head value c.self.invariant.0 ∙ ap (λ o. o.bytes ++ (head ++ value)) c.self.view_is

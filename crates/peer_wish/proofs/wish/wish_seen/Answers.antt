use Rattle.std.proofs.Common.{subst, sym, true}
use Rattle.peer_reply.specs.declared.wish.Wish.{Wish}
use Rattle.peer_reply.specs.declared.fault.Fault.{Fault}
use Rattle.peer_reply.specs.declared.wish.WishBody.TheVariants.{Fault as AFault}
use Rattle.peer_head.specs.Looks.{LooksAs}
use Rattle.peer_wish.specs.Nexts.{IsNextWish}
use Rattle.peer_wish.proofs.WishLemmas.{fault_next, head_next}
use Rattle.peer_wish.proofs.wish.wish_seen.Goals as goal

pub returns-in-Need : goal.returns-in-Need
returns-in-Need g c = λ held looks front. subst (LooksAs held) c.in-Need.is looks

pub returns-in-Fault : goal.returns-in-Fault
returns-in-Fault g c = λ held looks front.
    let numbers = g.S.Source.number_of c.args.names.now in
    let P : Fault → Type 0 = λ f. IsNextWish numbers held (record { body = AFault f; closing = true; bare = c.in-Fault.bare }) in
    (subst P (sym c.fault_of.ensures) (fault_next numbers held c.in-Fault.fault c.in-Fault.bare (subst (LooksAs held) c.in-Fault.is looks)), front)

pub returns-in_ok-wish-in-Head : goal.returns-in_ok-wish-in-Head
returns-in_ok-wish-in-Head g c = λ held looks front.
    let numbers = g.S.Source.number_of c.args.names.now in
    let P : Wish → Type 0 = λ w. IsNextWish numbers held w in
    (subst P (sym c.in_ok-wish-in-Head.ensures) (head_next numbers held c.in-Head.head (subst (LooksAs held) c.in-Head.is looks)), front)

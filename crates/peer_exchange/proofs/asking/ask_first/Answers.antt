use Rattle.std.proofs.Common.{Some, rules, subst, sym}
use Rattle.peer_fill.specs.Seats.{asks_of}
use Rattle.peer_wish.specs.Known.{IsKnown}
use Rattle.peer_wish.specs.Nexts.{IsNextOf, IsNextWish}
use Rattle.peer_wish.specs.Tickets.{asks_in_body}
use Rattle.peer_wish.proofs.KnownLemmas.{next_known}
use Rattle.peer_exchange.specs.Asking.{CountsAsks}
use Rattle.peer_reply.specs.declared.wish.Wish.{Wish}
use Rattle.peer_exchange.proofs.asking.ask_first.Goals as goal

pub ticket_of-requires-clause-known : goal.ticket_of-requires-clause-known
ticket_of-requires-clause-known g c =
    let next : IsNextOf (g.S.Source.number_of c.args.names.now) c.args.intake.now.held (Some c.in-Ok-Some.next) = subst (λ t. IsNextOf (g.S.Source.number_of c.args.names.now) t (Some c.in-Ok-Some.next)) c.as_slice.ensures (rw c.in-Ok-Some.field-0-is at c.in-Ok-Some.ensures.next) in
    let laws = g.met.S.Source in
    subst (λ s. IsKnown (g.S.Source.count s) c.in-Ok-Some.next.wish.body) c.requires.names
    (next_known _ _ (laws.numbered c.args.names.now) _ c.in-Ok-Some.next.wish next.0)

pub returns-in-Ok-Some-ticket_of-clause-asks : goal.returns-in-Ok-Some-ticket_of-clause-asks
returns-in-Ok-Some-ticket_of-clause-asks g c =
    let numbers = g.S.Source.number_of c.args.names.now in
    let held = c.args.intake.now.held in
    let next : IsNextOf numbers held (Some c.in-Ok-Some.next) = subst (λ t. IsNextOf numbers t (Some c.in-Ok-Some.next)) c.as_slice.ensures (rw c.in-Ok-Some.field-0-is at c.in-Ok-Some.ensures.next) in
    let is = rw c.in-Ok-Some-ticket_of.field-0-is at c.in-Ok-Some-ticket_of.ensures.ticket in
    let P : Wish → Type 0 = λ w. CountsAsks (asks_in_body w.body) (asks_of c.args.seat.now) (asks_of c.ticket_of.new.seat) in
    (subst (IsNextWish numbers held) (sym is) next.0, next.1, subst P (sym is) (rw c.in-Ok-Some-ticket_of.field-0-is at c.in-Ok-Some-ticket_of.ensures.counted))

pub returns-in-Ok-None-ticket_of-clause-asks : goal.returns-in-Ok-None-ticket_of-clause-asks
returns-in-Ok-None-ticket_of-clause-asks g c = search rules
